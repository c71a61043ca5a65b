-- What one step finds, as its code does: by the bytes from the cursor on, what judging them finds, and the fixed part.
-- Assumes nothing.
use Rattle.std.specs.Prelude.{ℕ, ◌+◌, ◌≤◌, ◌<◌, ◌≡◌, refl, List, [], ◌∷◌, length, take, drop}
use Rattle.std.proofs.Common.{not-suc-le-zero, arith, sym, ap, ◌∙◌, drop_of_length-le, length-take-le}
use Rattle.std.proofs.Math.ListN.{length-drop}
use Rattle.mrd_format.specs.declared.kind.Kind.{Kind}
use Rattle.mrd_format.specs.declared.rules.Rules.{Rules}
use Rattle.mrd_format.specs.Kinds.{fixed_size}
use Rattle.mrd_format.specs.Message.{fixed_part}
use Rattle.mrd_format.specs.MessageLaws.{size-least, fixed-take}
use Rattle.mrd_logic.specs.Answer.{refused}
use Rattle.mrd_cursor.specs.declared.cursor.Cursor.{Cursor}
use Rattle.mrd_cursor.specs.Cursors.{max_messages, after}
use Rattle.mrd_judge.specs.Judge.{Judged, faulty, whole, judge}
use Rattle.mrd_judge.specs.JudgeLaws.{fixed-long}
use Rattle.mrd_judge.specs.WholeLaws.{WholeAt, judge-whole}
use Rattle.mrd_stream.specs.Walk.{ended}
use Rattle.mrd_stream.specs.Places.{located, yields, over, step_by, step_at, step, yielded}

-- the step where bytes are left
step-front : (rules : Rules) (c : Cursor) (t : List ℕ) → 0 < length t → step_at rules c t ≡ step_by (judge rules c t) c t
unfolding step_at
step-front rules c [] h = absurd (not-suc-le-zero h)
step-front rules c (b ∷ t) h = refl

-- what a step gives by the fixed part is what the bytes of the message give
yields_record : (k : Kind) (c : Cursor) (t : List ℕ) (z : ℕ) → 2 + fixed_size k ≤ z → z ≤ length t →
    yielded c k (fixed_part k t) z ≡ yields (located c k (take z t)) (after c k z)
yields_record k c t z least fits = rw (fixed-take k z t least fits, length-take-le z t fits)

-- the step from c over s, where no bytes are left
pub step-ended : (rules : Rules) (c : Cursor) (s : List ℕ) → length s ≤ c.start → step rules c s ≡ over (ended c)
unfolding step step_at
step-ended rules c s h = rw (drop_of_length-le s h)

-- and where bytes are left: by what judging them finds
module _ (rules : Rules) (c : Cursor) (s : List ℕ) (h : c.start < length s) where
  front : step rules c s ≡ step_by (judge rules c (drop c.start s)) c (drop c.start s)
  unfolding step
  front = step-front rules c (drop c.start s) (simp length-drop (omega arith))

  pub step-faulty : {f : ℕ} → judge rules c (drop c.start s) ≡ faulty f → step rules c s ≡ over (refused f c.number c.start)
  step-faulty e = front ∙ ap (λ (j : Judged). step_by j c (drop c.start s)) e

  module _ {k : Kind} {z : ℕ} (e : judge rules c (drop c.start s) ≡ whole k z) where
    pub step-whole : step rules c s ≡ yields (located c k (take z (drop c.start s))) (after c k z)
    step-whole = front ∙ ap (λ (j : Judged). step_by j c (drop c.start s)) e

    judged : WholeAt rules c (drop c.start s) k z
    judged = judge-whole rules c (drop c.start s) e

    least : 2 + fixed_size k ≤ z
    least = omega (arith, size-least k (fixed_part k (drop c.start s)), judged.size)

    -- the fixed part is there, the count is not yet reached, and the message ends in the stream
    pub whole-fixed : 2 + fixed_size k ≤ length (drop c.start s)
    whole-fixed = omega (arith, least, judged.fits)

    pub whole_long : length (fixed_part k (drop c.start s)) ≡ fixed_size k
    whole_long = fixed-long k (drop c.start s) whole-fixed

    pub whole-counted : c.number < max_messages
    whole-counted = judged.counted

    pub whole-ends : c.start + z ≤ length s
    whole-ends = omega (arith, judged.fits, length-drop c.start s)

    pub step-yields-record : yielded c k (fixed_part k (drop c.start s)) z ≡ step rules c s
    step-yields-record = yields_record k c (drop c.start s) z least judged.fits ∙ sym step-whole
