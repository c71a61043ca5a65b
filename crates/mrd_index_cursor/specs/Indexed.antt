-- A cursor made from the columns that hold a stream's index is at the record with that number: what is there to see is what is seen by number.
-- Assumes nothing.
use Rattle.std.specs.Prelude.{ℕ, zero, suc, ◌+◌, ◌<◌, ◌≡◌, refl, true, List, [], ◌∷◌, map, length, get_or, take, drop}
use Rattle.std.proofs.Common.{arith, sym, ap, ◌∙◌, lt-ltb, take-append-drop}
use Rattle.mrd_logic.specs.Lists.{Nth}
use Rattle.mrd_logic.specs.Answer.{answered}
use Rattle.mrd_format.specs.declared.kind.Kind.{Kind}
use Rattle.mrd_format.specs.declared.rules.Rules.{Rules}
use Rattle.mrd_format.specs.declared.kind.Kind.TheVariants.{ConfigurationName, ConfigurationText, HeaderText, Close, Text, Acquisition, Image, Waveform}
use Rattle.mrd_format.specs.Kinds.{id_of, identified}
use Rattle.mrd_parts.specs.declared.parts.Part.{Part}
use Rattle.mrd_cursor.specs.declared.cursor.Phase.{Phase}
use Rattle.mrd_cursor.specs.declared.cursor.Cursor.{Cursor}
use Rattle.mrd_cursor.specs.Order.{allowed}
use Rattle.mrd_cursor.specs.Cursors.{max_messages}
use Rattle.mrd_stream.specs.Walk.{Trace}
use Rattle.mrd_stream.specs.Places.{Located, located, places, place, step_at, step}
use Rattle.mrd_stream.specs.Index.{Entry, entries_of, entries, start_column, id_column}
use Rattle.mrd_cut.specs.Walked.{Walks}
use Rattle.mrd_cut.specs.Walked.{ends, faults, meets}
use Rattle.mrd_cut.proofs.WalkedLaws.{walks}
use Rattle.mrd_cut.proofs.StepsLaws.{step-well}
use Rattle.mrd_cut.specs.CutPlaces.{part_at}
use Rattle.mrd_cut.specs.Inside.{Inside}
use Rattle.mrd_cut.proofs.InsideLaws.{place-nth, place_inside}
use Rattle.mrd_record.specs.AtCursor.{place_by, place_at}
use Rattle.mrd_views.specs.Views.{view_by, view_of}
use Rattle.mrd_fields.specs.Fields.{field_by, field_of}
use Rattle.mrd_index_match.specs.Compare.{columns_match}
use Rattle.mrd_index_match.specs.Exactly.{Held, believed-exactly}
use Rattle.mrd_index_cursor.specs.IndexCursor.{phase_for, cursor_for}

-- at c there is to see what record n of s has: its place and kind, its views and its fields
pub record AtRecord (rules : Rules) (s : List ℕ) (n : ℕ) (c : Cursor) : Type 0 where
  pub located : place_at rules c s ≡ place rules s n
  pub views : (p : Part) → view_by (place_at rules c s) p s ≡ view_of rules s n p
  pub fields : (o : ℕ) → field_by (place_at rules c s) o s ≡ field_of rules s n o

-- what a column has at place i is read there
nth_read : (xs : List ℕ) (i : ℕ) {v : ℕ} → Nth xs i v → (i < length xs) × (get_or xs i 0 ≡ v)
nth_read [] i h = absurd h
nth_read (x ∷ xs) zero h = (omega arith, h)
nth_read (x ∷ xs) (suc i) h = let later = nth_read xs i h in (omega (arith, later.0), later.1)

-- a given column that holds another's numbers has them
nth-given : (m t : List ℕ) (i v : ℕ) → take (length m) t ≡ m → Nth m i v → Nth t i v
nth-given [] t i v e h = absurd h
nth-given (x ∷ m) [] i v e h = let z : ◌≡◌ {A = ℕ} 0 1 = cc in absurd (omega arith)
nth-given (x ∷ m) (y ∷ t) zero v e h = let head : y ≡ x = cc in head ∙ h
nth-given (x ∷ m) (y ∷ t) (suc i) v e h = nth-given m t i v (cc) h

-- the entries es of the records from number n on have the place l of the one that is i further
record Listed (es : List Entry) (n i : ℕ) (l : Located) : Type 0 where
  numbered : n + i ≡ l.number
  few : l.number < max_messages
  starts : Nth (map (λ (e : Entry). e.start) es) i l.start
  ids : Nth (map (λ (e : Entry). e.id) es) i (id_of l.kind)

walk_listed : {rules : Rules} {c : Cursor} {s : List ℕ} {r : Trace} → Walks rules c s r → (i : ℕ) (l : Located) → Nth (places r) i l →
    Listed (entries_of r) c.number i l
walk_listed ends i l h = absurd h
walk_listed (faults q) i l h = absurd h
walk_listed (meets {c} {m} w a n v) zero l h = rw (← h) (record { numbered = omega arith; few = n; starts = refl; ids = refl })
walk_listed (meets {c} {m} w a n v) (suc i) l h =
    let later = walk_listed v i l h in
    record { numbered = omega (arith, later.numbered); few = later.few; starts = later.starts; ids = later.ids }

place_listed : (rules : Rules) (s : List ℕ) (n : ℕ) {l : Located} → place rules s n ≡ answered l → Listed (entries rules s) 0 n l
unfolding entries
place_listed rules s n {l} e = walk_listed (walks rules s) n l (place-nth rules s n e)

-- the order allows a message in the phase that its id gives
phase_allows : (rules : Rules) (k : Kind) → allowed k (phase_for (identified rules (id_of k))) ≡ true
unfolding identified
phase_allows rules ConfigurationName = refl
phase_allows rules ConfigurationText = refl
phase_allows rules HeaderText = refl
phase_allows rules Close = refl
phase_allows rules Text = refl
phase_allows rules Acquisition = refl
phase_allows rules Image = refl
phase_allows rules (Waveform l) = refl

-- a record that lies in s is the one at its start, in any phase that allows it
at-start : {rules : Rules} (s : List ℕ) (l : Located) → Inside rules s l → (p : Phase) → allowed l.kind p ≡ true → l.number < max_messages →
    place_at rules (record { number = l.number; start = l.start; phase = p }) s ≡ answered l
unfolding place_at step
at-start {rules} s l i p a n =
    let c : Cursor = record { number = l.number; start = l.start; phase = p } in
    let t = drop l.start s in
    let here = step-well c (part_at s l) (drop l.size t) i.well (rw i.kind a) n in
    let same : located c i.well.kind (part_at s l) ≡ l = rw (i.kind, i.long, ← i.numbers) in
    ap (λ (t : List ℕ). place_by (step_at rules c t)) (sym (take-append-drop l.size t)) ∙ ap place_by here ∙ ap answered same

-- the cursor for record n, from columns that hold the index of s
pub indexed_cursor : {rules : Rules} (s starts ids counters : List ℕ) → Held rules s starts ids counters → (n : ℕ) {l : Located} → place rules s n ≡ answered l →
    (c : Cursor) × ((cursor_for rules starts ids n ≡ answered c) × AtRecord rules s n c)
unfolding cursor_for view_of field_of start_column id_column
indexed_cursor {rules} s starts ids counters h n {l} e =
    let x = place_listed rules s n e in
    let start = nth_read starts n (nth-given (start_column rules s) starts n l.start h.by-starts x.starts) in
    let id = nth_read ids n (nth-given (id_column rules s) ids n (id_of l.kind) h.by-ids x.ids) in
    let own : n ≡ l.number = omega (arith, x.numbered) in
    let c : Cursor = record { number = l.number; start = l.start; phase = phase_for (identified rules (id_of l.kind)) } in
    let here : place_at rules c s ≡ place rules s n = at-start s l (place_inside rules s n e) c.phase (phase_allows rules l.kind) x.few ∙ sym e in (
      c,
      (
        simp (lt-ltb _ _ start.0, lt-ltb _ _ id.0, start.1, id.1, ← own),
        record { located = here; views = λ p. ap (λ a. view_by a p s) here; fields = λ o. ap (λ a. field_by a o s) here },
      ),
    )

-- so columns that were compared with s once, and found the same, give a cursor at each record
pub believed_cursor : (rules : Rules) (s starts ids counters : List ℕ) → columns_match rules s starts ids counters ≡ answered tt → (n : ℕ) {l : Located} → place rules s n ≡ answered l →
    (c : Cursor) × ((cursor_for rules starts ids n ≡ answered c) × AtRecord rules s n c)
believed_cursor rules s a b c m = indexed_cursor s a b c ((believed-exactly rules s [] a b c).1.own-believed.0 m).holds
