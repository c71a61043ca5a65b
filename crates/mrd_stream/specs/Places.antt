-- 'Place and kind', for each record of a stream.
-- Assumes nothing.
use Rattle.std.specs.Prelude.{ℕ, zero, suc, List, [], ◌∷◌, length, take, drop}
use Rattle.mrd_format.specs.declared.kind.Kind.{Kind}
use Rattle.mrd_format.specs.declared.rules.Rules.{Rules}
use Rattle.mrd_format.specs.Message.{fixed_part, numbers_of}
use Rattle.mrd_cursor.specs.declared.cursor.Cursor.{Cursor}
use Rattle.mrd_logic.specs.Answer.{Verdict, refused, Answer, answered, number, unless_refused}
use Rattle.mrd_stream.specs.Walk.{Trace, message, done, ended, trace, answer}
use Rattle.mrd_judge.specs.Judge.{Judged, faulty, whole, judge}
use Rattle.mrd_cursor.specs.Cursors.{after}

-- 'number, start, size (id included)', the kind and that kind's own numbers
pub record Located : Type 0 where
  pub number : ℕ
  pub start : ℕ
  pub size : ℕ
  pub kind : Kind
  pub numbers : List ℕ

-- a message m of kind k, met at c
abbrev pub located : Cursor → Kind → List ℕ → Located
located c k m =
    record { number = c.number; start = c.start; size = length m; kind = k; numbers = numbers_of k (fixed_part k m) }

-- the places and kinds of all messages that a walk met, in order
abbrev pub places : Trace → List Located
places (message c k m r) = located c k m ∷ places r
places (done v) = []

-- entry n of a list, else 16: 'no such record'
abbrev pub nth : List Located → ℕ → Answer Located
nth [] n = number 16
nth (l ∷ ls) zero = answered l
nth (l ∷ ls) (suc n) = nth ls n

-- the place and kind of record n: the stream's refusal first, then 16
unfoldable pub place : Rules → List ℕ → ℕ → Answer Located
place rules s n = unless_refused (answer rules s) (nth (places (trace rules s)) n)

-- what one step of a walk hands out: a message and the next cursor, or the stream's answer
pub data Stepped : Type 0 where
  yields : Located → Cursor → Stepped
  over : Verdict → Stepped

abbrev pub step_by : Judged → Cursor → List ℕ → Stepped
step_by (faulty f) c t = over (refused f c.number c.start)
step_by (whole k z) c t = yields (located c k (take z t)) (after c k z)

-- the step at the front of t
unfoldable pub step_at : Rules → Cursor → List ℕ → Stepped
step_at rules c [] = over (ended c)
step_at rules c (b ∷ t) = step_by (judge rules c (b ∷ t)) c (b ∷ t)

-- the step from a cursor, any cursor, over a stream
unfoldable pub step : Rules → Cursor → List ℕ → Stepped
step rules c s = step_at rules c (drop c.start s)

-- a message of kind k and size z as a record, by its fixed part h
abbrev pub yielded : Cursor → Kind → List ℕ → ℕ → Stepped
yielded c k h z =
    yields (record { number = c.number; start = c.start; size = z; kind = k; numbers = numbers_of k h }) (after c k z)
