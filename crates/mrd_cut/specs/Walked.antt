-- What a walk meets, said of the bytes: well-formed messages in the order that the phases allow, up to the end of the stream or to the first fault.
-- That this holds of every walk is proved in proofs/WalkedLaws.antt.
-- Assumes nothing.
use Rattle.std.specs.Prelude.{ℕ, ◌+◌, ◌≤◌, ◌<◌, ◌≡◌, true, List, [], ◌∷◌, ◌++◌, length}
use Rattle.mrd_format.specs.Kinds.{identified}
use Rattle.mrd_format.specs.Message.{id_at}
use Rattle.mrd_format.specs.WellFormed.{WellFormed}
use Rattle.mrd_cursor.specs.declared.cursor.Cursor.{Cursor}
use Rattle.mrd_cursor.specs.Order.{allowed}
use Rattle.mrd_cursor.specs.Cursors.{max_messages, after}
use Rattle.mrd_judge.specs.Stages.{checks_as}
use Rattle.mrd_judge.specs.Judge.{faulty, judge}
use Rattle.mrd_logic.specs.Answer.{Verdict, refused}
use Rattle.mrd_stream.specs.Walk.{ended, Trace, message, done, trace, verdict, answer}
use Rattle.mrd_logic.specs.Every.{Every}
use Rattle.mrd_logic.specs.Checks.{FirstFault}
use Rattle.mrd_logic.specs.Joined.{joined}
use Rattle.mrd_cut.specs.Cut.{kinds_in, InOrder}
use Rattle.mrd_cut.specs.OrderRule.{phase_from, phase_after, AllowedFrom}
use Rattle.mrd_format.specs.declared.kind.Kind.{Kind}
use Rattle.mrd_format.specs.declared.rules.Rules.{Rules}

-- walking s from c meets r: the end, a fault, or a well-formed message and then the rest
pub data Walks (rules : Rules) : Cursor → List ℕ → Trace → Type 0 where
  ends : {c : Cursor} → Walks rules c [] (done (ended c))
  faults : {c : Cursor} {b : ℕ} {t : List ℕ} {f : ℕ} → judge rules c (b ∷ t) ≡ faulty f →
      Walks rules c (b ∷ t) (done (refused f c.number c.start))
  meets : {c : Cursor} {m rest : List ℕ} {r : Trace} (w : WellFormed rules m) → allowed w.kind c.phase ≡ true →
      c.number < max_messages → Walks rules (after c w.kind (length m)) rest r → Walks rules c (m ++ rest) (message c w.kind m r)

-- the messages that a walk met
abbrev pub pieces_of : Trace → List (List ℕ)
pieces_of (message c k m r) = m ∷ pieces_of r
pieces_of (done v) = []

-- they are well formed, where the first is and those of the rest are
abbrev pub well_met : {rules : Rules} (c : Cursor) (k : Kind) (m : List ℕ) (r : Trace) → WellFormed rules m → Every (WellFormed rules) (pieces_of r) →
    Every (WellFormed rules) (pieces_of (message c k m r))
well_met c k m r w later = (w, later)

-- where a walk from c stands after well-formed messages
abbrev pub cursor_past : (rules : Rules) → Cursor → (ms : List (List ℕ)) → Every (WellFormed rules) ms → Cursor
cursor_past rules c ms w =
    record { number = c.number + length ms; start = c.start + length (joined ms); phase = phase_from c.phase (kinds_in rules ms w) }

-- a walk that stands at c with t left gives the answer v: t is empty, or its first message has a fault
abbrev pub Stops : Rules → Cursor → List ℕ → Verdict → Type 0
Stops rules c [] v = v ≡ ended c
Stops rules c (b ∷ t) v =
    (f : ℕ) × FirstFault f (checks_as rules.profile (identified rules (id_at (b ∷ t))) c (b ∷ t)) × (v ≡ refused f c.number c.start)

-- the messages that a walk over s from c met: they are well formed, allowed, and not too many; after them the walk stops
pub record Walked (rules : Rules) (c : Cursor) (s : List ℕ) (r : Trace) : Type 0 where
  pub well : Every (WellFormed rules) (pieces_of r)
  pub rest : List ℕ
  pub whole : joined (pieces_of r) ++ rest ≡ s
  pub ordered : AllowedFrom c.phase (kinds_in rules (pieces_of r) well)
  pub counted : c.number ≤ max_messages → c.number + length (pieces_of r) ≤ max_messages
  pub stops : Stops rules (cursor_past rules c (pieces_of r) well) rest (verdict r)

-- where the walk of a stream stands after well-formed messages: their number, their bytes, and the phase that their kinds lead to
abbrev pub cursor_after : (rules : Rules) (ms : List (List ℕ)) → Every (WellFormed rules) ms → Cursor
cursor_after rules ms w = record { number = length ms; start = length (joined ms); phase = phase_after (kinds_in rules ms w) }

-- the messages that the walk of s met: they are well formed, in order, and not too many; after them the walk stops with the answer
pub record Met (rules : Rules) (s : List ℕ) : Type 0 where
  pub well : Every (WellFormed rules) (pieces_of (trace rules s))
  pub rest : List ℕ
  pub whole : joined (pieces_of (trace rules s)) ++ rest ≡ s
  pub ordered : InOrder (kinds_in rules (pieces_of (trace rules s)) well)
  pub few : length (pieces_of (trace rules s)) ≤ max_messages
  pub stops : Stops rules (cursor_after rules (pieces_of (trace rules s)) well) rest (answer rules s)
