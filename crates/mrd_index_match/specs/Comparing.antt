-- A given index on the way to being compared whole: what the walk has compared, and what is still to do.
-- Assumes nothing.
use Rattle.std.specs.Prelude.{ℕ, suc, ◌-◌, ◌<◌, ◌≡◌, refl, Bool, true, false, ◌&&◌, List, length}
use Rattle.std.proofs.Common.{add-one, sym, ap, ◌∙◌}
use Rattle.std.proofs.Math.Bool.{and_assoc, and-true}
use Rattle.mrd_cursor.specs.declared.cursor.Cursor.{Cursor}
use Rattle.mrd_logic.specs.Answer.{Verdict, accepted, refused}
use Rattle.mrd_cursor.specs.Cursors.{beginning, max_messages}
use Rattle.mrd_stream.specs.Walk.{verdict, answer}
use Rattle.mrd_stream.specs.Index.{Entry, entry_of, entries_of, entries}
use Rattle.mrd_stream.specs.Places.{Located, yields, over, step}
use Rattle.mrd_stream.specs.StepLaws.{Passes, step-yields, on_less, On, on-start, on-next, on-end}
use Rattle.mrd_index.specs.Counted.{few}
use Rattle.mrd_index.specs.Entries.{entry_at, WithinStream, passes-within, passes-number, passes-one}
use Rattle.mrd_index_match.specs.Compare.{all_same, Counts, conclusion}
use Rattle.mrd_format.specs.declared.rules.Rules.{Rules}

-- the walk over s stands at c, and b says whether all of what is given, which began as `begun` says, was the same so far
pub record Comparing (rules : Rules) (entry_by : ℕ → Entry → Bool) (begun : Bool) (s : List ℕ) (c : Cursor) (b : Bool) : Type 0 where
  pub walk : On rules verdict (answer rules s) c s
  pub rest : On rules (λ r. b && all_same entry_by c.number (entries_of r)) (begun && all_same entry_by 0 (entries rules s)) c s

from-beginning : (rules : Rules) (entry_by : ℕ → Entry → Bool) (s : List ℕ) (b : Bool) → Comparing rules entry_by b s beginning b
unfolding answer entries
from-beginning rules entry_by s b = record { walk = on-start rules verdict s; rest = on-start rules (λ r. b && all_same entry_by 0 (entries_of r)) s }

pub start : {rules : Rules} {entry_by : ℕ → Entry → Bool} {begun : Bool} {s : List ℕ} {c : Cursor} {b : Bool} → c ≡ beginning → b ≡ begun → Comparing rules entry_by begun s c b
start p q = rw (p, q) (from-beginning _ _ _ _)

-- a message that a step hands out lies in the stream and is one of few, and the walk goes past it
module _ (rules : Rules) (s : List ℕ) (c d : Cursor) (l : Located) (q : yields l d ≡ step rules c s) where
  passes : Passes rules c s l d
  passes = step-yields rules c s (sym q)

  pub within : WithinStream s l
  within = passes-within passes

  pub numbered : l.number < max_messages
  numbered = rw (passes-number passes) passes.few

  pub less : length s - d.start < length s - c.start
  less = on_less s passes

-- past a message
module _ {rules : Rules} {entry_by : ℕ → Entry → Bool} {begun : Bool} {s : List ℕ} {c d : Cursor} {b : Bool} {l : Located} (h : Comparing rules entry_by begun s c b) (p : Passes rules c s l d) where
  past : (x : Bool) → x ≡ (b && entry_by l.number (entry_at s l)) → Comparing rules entry_by begun s d x
  past x e =
      record {
        walk = on-next rules verdict s verdict h.walk p (λ r. refl);
        rest =
            on-next rules (λ r. b && all_same entry_by c.number (entries_of r)) s (λ r. x && all_same entry_by d.number (entries_of r)) h.rest p
            (λ r.
            let here : entry_by c.number (entry_of c.start p.kind p.bytes) ≡ entry_by l.number (entry_at s l) =
            rw (passes-one p, passes-number p) in
            let next : suc c.number ≡ d.number = sym (p.counted ∙ add-one c.number) in
            sym (and_assoc b _ _) ∙ ap (λ (y : Bool). (b && y) && all_same entry_by (suc c.number) (entries_of r)) here ∙
            rw (← e, next));
      }

  -- whose entry was compared
  pub next-same : {x : Bool} → b ≡ true → x ≡ entry_by l.number (entry_at s l) → Comparing rules entry_by begun s d x
  next-same {x} t e = past x (rw t e)

  -- after the index was found to differ
  pub next-other : b ≡ false → Comparing rules entry_by begun s d b
  next-other t = past b (rw t)

-- and past one that a step hands out
module _ {rules : Rules} {entry_by : ℕ → Entry → Bool} {begun : Bool} {s : List ℕ} {c d : Cursor} {b : Bool} {l : Located} (h : Comparing rules entry_by begun s c b) (q : yields l d ≡ step rules c s) where
  pub step-same : {x : Bool} {e : Entry} → b ≡ true → e ≡ entry_at s l → x ≡ entry_by l.number e → Comparing rules entry_by begun s d x
  step-same t own e = next-same h (passes rules s c d l q) t (rw (← own) e)

  pub step-other : b ≡ false → Comparing rules entry_by begun s d b
  step-other t = next-other h (passes rules s c d l q) t

-- at the end
module _ {rules : Rules} {entry_by : ℕ → Entry → Bool} {begun : Bool} {s : List ℕ} {c : Cursor} {b : Bool} {v : Verdict} (h : Comparing rules entry_by begun s c b) (q : over v ≡ step rules c s) where
  ended : v ≡ answer rules s
  ended = on-end rules verdict s h.walk (sym q)

  pub counts : Counts v
  counts = by v ended
    where
      by : (v : Verdict) → v ≡ answer rules s → Counts v
      by (accepted n) e = few rules s (sym e)
      by (refused f r a) e = tt

  pub finish : (end_by : ℕ → Bool) → conclusion end_by b v ≡ conclusion end_by (begun && all_same entry_by 0 (entries rules s)) (answer rules s)
  finish end_by = rw (ended, ← on-end rules (λ r. b && all_same entry_by c.number (entries_of r)) s h.rest (sym q), and-true b)

-- what a walk needs of its steps and at its end
pub ruleset walked = (within, numbered, less, counts, finish)
