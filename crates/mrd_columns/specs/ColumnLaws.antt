-- The columns on the way to holding the entries of a stream, and at the end.
-- Assumes nothing.
use Rattle.std.specs.Prelude.{ℕ, ◌+◌, ◌≤◌, ◌≡◌, true, false, ◌||◌, List, [], ◌∷◌, ◌++◌, map, ltb, leb, length, drop}
use Rattle.std.proofs.Common.{arith, ap, ◌∙◌, ltb-false}
use Rattle.std.proofs.lemmas.Bool.{false≢true, lt-leb}
use Rattle.std.proofs.lemmas.List.{length-map}
use Rattle.mrd_logic.specs.Choice.{neither}
use Rattle.mrd_numbers.specs.Stored.{stored, front, stored-front}
use Rattle.mrd_cursor.specs.declared.cursor.Cursor.{Cursor}
use Rattle.mrd_logic.specs.Answer.{Verdict, accepted, refused, answered, stream, number}
use Rattle.mrd_stream.specs.Walk.{answer}
use Rattle.mrd_cursor.specs.Cursors.{beginning}
use Rattle.mrd_stream.specs.Index.{Entry, entries, start_column, id_column, counter_column}
use Rattle.mrd_stream.specs.Places.{Located, over, step}
use Rattle.mrd_stream.specs.StepLaws.{Passes}
use Rattle.mrd_index.specs.Counted.{entries-count}
use Rattle.mrd_index.specs.Entries.{entry_at}
use Rattle.mrd_columns.specs.Columns.{columns_answer, Rooms}
use Rattle.mrd_index.specs.Filling as filling
use Rattle.mrd_index.specs.Filling.{in_column, Filling}
use Rattle.mrd_format.specs.declared.rules.Rules.{Rules}

-- columns found to have n places
pub rooms : (n a b c : ℕ) → (ltb a n || (ltb b n || ltb c n)) ≡ false → Rooms n a b c
rooms n a b c e =
    let first = neither (ltb a n) (ltb b n || ltb c n) e in
    let others = neither (ltb b n) (ltb c n) first.1 in
    record { starts = ltb-false a n first.0; ids = ltb-false b n others.0; counters = ltb-false c n others.1 }

-- place n of columns that have more places is not missing
pub place-there : (n a b c : ℕ) → Rooms (n + 1) a b c → (leb a n || (leb b n || leb c n)) ≡ true → ⊥
place-there n a b c r e =
    false≢true (simp (lt-leb a n (omega (arith, r.starts)), lt-leb b n (omega (arith, r.ids)), lt-leb c n (omega (arith, r.counters))) at e)

-- a refused stream
pub stream-refused : (rules : Rules) (s : List ℕ) {f r b : ℕ} → answer rules s ≡ refused f r b → (x y z : ℕ) → columns_answer rules s x y z ≡ stream f r b
unfolding columns_answer
stream-refused rules s e x y z = rw e

-- an accepted stream of n records
module _ (rules : Rules) (s : List ℕ) {n : ℕ} (e : answer rules s ≡ accepted n) where
  -- columns too short, or long enough
  pub column-short : (a b c : ℕ) → (ltb a n || (ltb b n || ltb c n)) ≡ true → columns_answer rules s a b c ≡ number 14
  unfolding columns_answer
  column-short a b c h = simp (e, entries-count rules s e, h)

  pub columns-fit : (a b c : ℕ) → (ltb a n || (ltb b n || ltb c n)) ≡ false → columns_answer rules s a b c ≡ answered n
  unfolding columns_answer
  columns-fit a b c h = simp (e, entries-count rules s e, h)

  -- what lies in a column after the records' places
  after-places : (g : Entry → ℕ) (o : List ℕ) → front (map g (entries rules s)) o ≡ map g (entries rules s) ++ drop n o
  after-places g o = rw (length-map (entries rules s) g, entries-count rules s e)

  -- the columns filled, which were o, p and q
  pub filled : (o p q x y z : List ℕ) →
      (x ≡ front (start_column rules s) o) × ((y ≡ front (id_column rules s) p) × (z ≡ front (counter_column rules s) q)) →
      (x ≡ start_column rules s ++ drop n o) × ((y ≡ id_column rules s ++ drop n p) × (z ≡ counter_column rules s ++ drop n q))
  unfolding start_column id_column counter_column
  filled o p q x y z h = (
    h.0 ∙ after-places (λ (e : Entry). e.start) o,
    (h.1.0 ∙ after-places (λ (e : Entry). e.id) p, h.1.1 ∙ after-places (λ (e : Entry). e.counter) q),
  )

-- the walk over s stands at c; the columns, which were o, p and q, hold the entries of what was passed
pub record FillingAll (rules : Rules) (s o p q : List ℕ) (c : Cursor) (starts ids counters : List ℕ) : Type 0 where
  pub at-starts : Filling rules (in_column (λ (e : Entry). e.start)) s o c starts
  pub at-ids : Filling rules (in_column (λ (e : Entry). e.id)) s p c ids
  pub at-counters : Filling rules (in_column (λ (e : Entry). e.counter)) s q c counters

begun : (rules : Rules) (g : Entry → ℕ) (s o : List ℕ) → length (entries rules s) ≤ length o → Filling rules (in_column g) s o beginning o
begun rules g s o h = filling.start rules {f = in_column g} (omega (arith, length-map (entries rules s) g))

pub start : (rules : Rules) {s o p q : List ℕ} → Rooms (length (entries rules s)) (length o) (length p) (length q) → FillingAll rules s o p q beginning o p q
start rules {s} {o} {p} {q} r =
    record { at-starts = begun rules _ s o r.starts; at-ids = begun rules _ s p r.ids; at-counters = begun rules _ s q r.counters }

module _ {rules : Rules} {s o p q starts ids counters : List ℕ} {c : Cursor} (h : FillingAll rules s o p q c starts ids counters) where
  -- past a message: it has a place in each column
  module _ {d : Cursor} {l : Located} (passed : Passes rules c s l d) where
    pub has-place : Rooms (l.number + 1) (length starts) (length ids) (length counters)
    has-place =
        record {
          starts = filling.room h.at-starts passed;
          ids = filling.room h.at-ids passed;
          counters = filling.room h.at-counters passed;
        }

    -- and is written there
    pub next : {x : Entry} {starts' ids' counters' : List ℕ} → x ≡ entry_at s l →
        (starts' ≡ stored l.number (x.start ∷ []) starts) ×
        ((ids' ≡ stored l.number (x.id ∷ []) ids) × (counters' ≡ stored l.number (x.counter ∷ []) counters)) →
        FillingAll rules s o p q d starts' ids' counters'
    next same w =
        record {
          at-starts = filling.next h.at-starts passed (w.0 ∙ ap (λ (e : Entry). stored l.number (e.start ∷ []) starts) same);
          at-ids = filling.next h.at-ids passed (w.1.0 ∙ ap (λ (e : Entry). stored l.number (e.id ∷ []) ids) same);
          at-counters = filling.next h.at-counters passed (w.1.1 ∙ ap (λ (e : Entry). stored l.number (e.counter ∷ []) counters) same);
        }

  -- at the end
  pub finish : {v : Verdict} → step rules c s ≡ over v →
      (starts ≡ front (start_column rules s) o) × ((ids ≡ front (id_column rules s) p) × (counters ≡ front (counter_column rules s) q))
  unfolding start_column id_column counter_column
  finish e = (
    filling.finish h.at-starts e ∙ stored-front _ o,
    (filling.finish h.at-ids e ∙ stored-front _ p, filling.finish h.at-counters e ∙ stored-front _ q),
  )
