-- A cursor at a record, made from the columns of an index.
-- Assumes nothing.
use Rattle.std.specs.Prelude.{ℕ, ◌&&◌, List, ltb, length, get_or, Option, Some, None, Result}
use Rattle.mrd_logic.specs.Choice.{pick}
use Rattle.mrd_logic.specs.Answer.{Answer, answered, number}
use Rattle.mrd_format.specs.declared.kind.Kind.{Kind}
use Rattle.mrd_format.specs.declared.rules.Rules.{Rules}
use Rattle.mrd_format.specs.declared.kind.Kind.TheVariants.{ConfigurationName, ConfigurationText, HeaderText, Close, Text, Acquisition, Image, Waveform}
use Rattle.mrd_format.specs.declared.refusal.Refusal.{Refusal}
use Rattle.mrd_format.specs.Refusals.{answer_in}
use Rattle.mrd_format.specs.Kinds.{identified}
use Rattle.mrd_cursor.specs.declared.cursor.Phase.{Phase}
use Rattle.mrd_cursor.specs.declared.cursor.Phase.TheVariants.{Start, Headed}
use Rattle.mrd_cursor.specs.declared.cursor.Cursor.{Cursor}

-- a phase in which the 'order of messages' allows a message of this kind: before the header for a configuration and the header itself, after it
-- for the others
abbrev pub phase_before : Kind → Phase
phase_before ConfigurationName = Start
phase_before ConfigurationText = Start
phase_before HeaderText = Start
phase_before Close = Headed
phase_before Text = Headed
phase_before Acquisition = Headed
phase_before Image = Headed
phase_before (Waveform l) = Headed

-- by what an id says; a message with an id that no kind has is refused in any phase
abbrev pub phase_for : Option Kind → Phase
phase_for (Some k) = phase_before k
phase_for None = Start

-- the cursor at record n, by place n of the columns of starts and ids; 16, 'no such record', where one of them has no such place
unfoldable pub cursor_for : Rules → List ℕ → List ℕ → ℕ → Answer Cursor
cursor_for rules starts ids n =
    pick (ltb n (length starts) && ltb n (length ids))
    (answered (record { number = n; start = get_or starts n 0; phase = phase_for (identified rules (get_or ids n 0)) }))
    (number 16)

-- what is said of a cursor, and of a refusal
abbrev pub cursor_meaning : Result Cursor Refusal → Answer Cursor
cursor_meaning q = answer_in (λ c. c) q
