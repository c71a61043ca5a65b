-- A stream's answer, a walk's cursor and its steps as the C structs, and the cursor that a C struct stands for.
-- Assumes nothing.
use Rattle.std.specs.Prelude.{ℕ, ◌≡◌, refl, true, false, eqb}
use Rattle.std.proofs.Common.{ap}
use Rattle.mrd_logic.specs.Answer.{Verdict, accepted, refused, Answer, answered, stream, number}
use Rattle.mrd_logic.specs.Choice.{pick}
use Rattle.mrd_cursor.specs.declared.cursor.Phase.{Phase}
use Rattle.mrd_cursor.specs.declared.cursor.Phase.TheVariants.{Start, Configured, Headed, Closed}
use Rattle.mrd_cursor.specs.declared.cursor.Cursor as walk
use Rattle.mrd_stream.specs.Places.{Stepped, yields, over}
use Rattle.c_walk.specs.declared.walk.Cursor.{Cursor}
use Rattle.c_walk.specs.declared.walk.CursorAnswer.{CursorAnswer}
use Rattle.c_walk.specs.declared.walk.Step.{Step}
use Rattle.c_walk.specs.declared.checked.Checked.{Checked}
use Rattle.c_place.specs.PlacedStruct.{c_record, refused_place}

-- the stream's answer
abbrev pub checked_as : (refusal r byte count : ℕ) → Checked
checked_as f r b n = record { refusal = f; «record» = r; byte = b; count = n }

abbrev pub c_checked : Verdict → Checked
c_checked (accepted n) = checked_as 0 0 0 n
c_checked (refused f r b) = checked_as f r b 0

-- the phases, from 0 on; any other number is closed
unfoldable pub phase_of : ℕ → Phase
phase_of n = pick (eqb n 0) Start (pick (eqb n 1) Configured (pick (eqb n 2) Headed Closed))

abbrev pub cursor_of : Cursor → walk.Cursor
cursor_of c = record { number = c.number; start = c.start; phase = phase_of c.phase }

abbrev pub phase_number : Phase → ℕ
phase_number Start = 0
phase_number Configured = 1
phase_number Headed = 2
phase_number Closed = 3

abbrev pub c_cursor : walk.Cursor → Cursor
c_cursor c = record { number = c.number; start = c.start; phase = phase_number c.phase }

abbrev pub no_cursor : Cursor
no_cursor = record { number = 0; start = 0; phase = 0 }

-- a cursor made from an index; of refusals the number alone
abbrev pub c_cursor_answer : Answer walk.Cursor → CursorAnswer
c_cursor_answer (answered c) = record { refusal = 0; cursor = c_cursor c }
c_cursor_answer (stream f r b) = record { refusal = f; cursor = no_cursor }
c_cursor_answer (number n) = record { refusal = n; cursor = no_cursor }

abbrev pub c_step : Stepped → Step
c_step (yields l c) =
    record { ended = false; here = c_record l; next = c_cursor c; answer = checked_as 0 0 0 0 }
c_step (over v) =
    record { ended = true; here = refused_place 0 0 0; next = no_cursor; answer = c_checked v }

-- a cursor that was given is read as the walk's own
phase_kept : (p : Phase) → phase_of (phase_number p) ≡ p
unfolding phase_of
phase_kept Start = refl
phase_kept Configured = refl
phase_kept Headed = refl
phase_kept Closed = refl

pub cursor_kept : (c : walk.Cursor) → cursor_of (c_cursor c) ≡ c
cursor_kept c = ap (λ (p : Phase). record { number = c.number; start = c.start; phase = p }) (phase_kept c.phase)
