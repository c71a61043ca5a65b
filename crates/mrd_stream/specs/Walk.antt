-- The reader's walk over a whole stream: 'the first faulty message decides'.
-- Assumes nothing.
use Rattle.std.specs.Prelude.{ℕ, zero, suc, pred, Bool, true, false, List, [], ◌∷◌, take, drop}
use Rattle.mrd_format.specs.declared.kind.Kind.{Kind}
use Rattle.mrd_format.specs.declared.rules.Rules.{Rules}
use Rattle.mrd_logic.specs.Answer.{Verdict, accepted, refused}
use Rattle.mrd_cursor.specs.declared.cursor.Cursor.{Cursor}
use Rattle.mrd_cursor.specs.Order.{is_closed}
use Rattle.mrd_cursor.specs.Cursors.{beginning, after}
use Rattle.mrd_judge.specs.Judge.{faulty, whole, judge}

abbrev pub ended_as : Bool → Cursor → Verdict
ended_as true c = accepted c.number
ended_as false c = refused 13 c.number c.start

-- no bytes are left: 'no bytes left without a close give 13'
unfoldable pub ended : Cursor → Verdict
ended c = ended_as (is_closed c.phase) c

-- what a walk meets: messages, each with the cursor at it, its kind and its bytes, and then the answer
pub data Trace : Type 0 where
  message : Cursor → Kind → List ℕ → Trace → Trace
  done : Verdict → Trace

-- the walk from c on, with k bytes of the last message still to pass before the next is due
unfoldable pub walk : Rules → List ℕ → ℕ → Cursor → Trace
walk rules [] k c = done (ended c)
walk rules (b ∷ t) (suc k) c = walk rules t k c
walk rules (b ∷ t) zero c =
    elim (judge rules c (b ∷ t)) [
      | faulty f ↦ done (refused f c.number c.start)
      | whole k z ↦ message c k (take z (b ∷ t)) (walk rules t (pred z) (after c k z))
    ]

-- the trace of s from a cursor on
abbrev pub from : Rules → Cursor → List ℕ → Trace
from rules c s = walk rules (drop c.start s) 0 c

unfoldable pub trace : Rules → List ℕ → Trace
trace rules s = walk rules s 0 beginning

abbrev pub verdict : Trace → Verdict
verdict (message c k m r) = verdict r
verdict (done v) = v

-- the stream's answer
unfoldable pub answer : Rules → List ℕ → Verdict
answer rules s = verdict (trace rules s)
