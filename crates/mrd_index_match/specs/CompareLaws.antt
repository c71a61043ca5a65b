-- Comparing record by record compares the whole index.
-- Assumes nothing.
use Rattle.std.specs.Prelude.{ℕ, suc, ◌+◌, ◌*◌, ◌≡◌, Bool, true, false, ◌&&◌, List, [], ◌∷◌, ◌++◌, map, length, drop}
use Rattle.std.proofs.Common.{arith, sym, ◌∙◌, drop-drop}
use Rattle.std.proofs.Math.Path.{refl, ap}
use Rattle.std.proofs.Math.Bool.{and_assoc, and-true, and-false}
use Rattle.mrd_logic.specs.Lists.{begins, equal}
use Rattle.mrd_logic.specs.ListLaws.{begins-next, equal-append}
use Rattle.mrd_logic.specs.Answer.{Verdict, accepted, refused, unless_refused}
use Rattle.mrd_stream.specs.Walk.{answer}
use Rattle.mrd_stream.specs.Index.{Entry, entries, front_field, entry_field, entry_fields, end_field, index, start_column, id_column, counter_column}
use Rattle.mrd_index.specs.FileLaws.{entries-long, index-fields}
use Rattle.mrd_index_match.specs.Compare.{believed, file_match, columns_match, front_in_file, entry_in_file, end_in_file, entry_in_columns, all_same, conclusion}
use Rattle.mrd_format.specs.declared.rules.Rules.{Rules}

-- in a file, the entries' fields stand one after the other
fields-held : (f : List ℕ) (i : ℕ) (es : List Entry) →
    all_same (entry_in_file f) i es ≡ begins (entry_fields es) (drop (16 + 17 * i) f)
fields-held f i [] = refl
fields-held f i (e ∷ es) =
    rw (fields-held f (suc i) es)
    (sym (begins-next f (entry_field e) (entry_fields es) (16 + 17 * i) (16 + 17 * suc i) (omega arith)))

-- so a file is compared whole
module _ (rules : Rules) (s f : List ℕ) where
  file-whole : {n : ℕ} → answer rules s ≡ accepted n →
      ((begins (front_field (length s)) f && all_same (entry_in_file f) 0 (entries rules s)) && equal (drop (16 + 17 * n) f) (end_field n)) ≡ equal f (index rules s)
  file-whole {n} e =
      let front = front_field (length s) in
      let es = entry_fields (entries rules s) in
      let end : drop (length es) (drop 16 f) ≡ drop (16 + 17 * n) f = drop-drop (length es) 16 f ∙ ap (λ (k : ℕ). drop (16 + k) f) (entries-long rules s e) in
      rw (fields-held f 0 (entries rules s), ← end)
      (sym (ap (equal f) (index-fields rules s e) ∙ equal-append f front (es ++ end_field n) ∙
      ap (λ (x : Bool). begins front f && x) (equal-append (drop 16 f) es (end_field n)) ∙ sym (and_assoc (begins front f) _ _)))

  pub file_match_lem : conclusion (end_in_file f) (front_in_file f (length s) && all_same (entry_in_file f) 0 (entries rules s)) (answer rules s) ≡ file_match rules s f
  unfolding file_match
  file_match_lem = by (answer rules s) refl
    where
      by : (v : Verdict) → answer rules s ≡ v →
          conclusion (end_in_file f) (front_in_file f (length s) && all_same (entry_in_file f) 0 (entries rules s)) v ≡
          unless_refused v (believed (equal f (index rules s)))
      by (accepted n) e = ap believed (file-whole e)
      by (refused n r x) e = refl

-- three columns, place by place
zip : (p q r a b c : Bool) → ((p && (q && r)) && (a && (b && c))) ≡ ((p && a) && ((q && b) && (r && c)))
zip false q r a b c = refl
zip true false r a b c = sym (and-false a)
zip true true false a b c = rw (and-false b) (sym (and-false a))
zip true true true a b c = refl

columns_held : (a b c : List ℕ) (i : ℕ) (es : List Entry) →
    all_same (entry_in_columns a b c) i es ≡
    (begins (map (λ (e : Entry). e.start) es) (drop i a) &&
    (begins (map (λ (e : Entry). e.id) es) (drop i b) && begins (map (λ (e : Entry). e.counter) es) (drop i c)))
columns_held a b c i [] = refl
columns_held a b c i (e ∷ es) =
    let next : suc i ≡ i + 1 = omega arith in
    let starts = map (λ (e : Entry). e.start) es in
    let ids = map (λ (e : Entry). e.id) es in
    let counters = map (λ (e : Entry). e.counter) es in
    rw (
      columns_held a b c (suc i) es,
      begins-next a (e.start ∷ []) starts i (suc i) next,
      begins-next b (e.id ∷ []) ids i (suc i) next,
      begins-next c (e.counter ∷ []) counters i (suc i) next,
    )
    (zip (begins (e.start ∷ []) (drop i a)) (begins (e.id ∷ []) (drop i b)) (begins (e.counter ∷ []) (drop i c))
    (begins starts (drop (suc i) a)) (begins ids (drop (suc i) b)) (begins counters (drop (suc i) c)))

pub columns_match_lem : (rules : Rules) (s a b c : List ℕ) → conclusion (λ n. true) (all_same (entry_in_columns a b c) 0 (entries rules s)) (answer rules s) ≡ columns_match rules s a b c
unfolding columns_match start_column id_column counter_column
columns_match_lem rules s a b c = by (answer rules s)
  where
    by : (v : Verdict) → conclusion (λ n. true) (all_same (entry_in_columns a b c) 0 (entries rules s)) v ≡
        unless_refused v (believed (begins (start_column rules s) a && (begins (id_column rules s) b && begins (counter_column rules s) c)))
    by (accepted n) = ap believed (and-true _ ∙ columns_held a b c 0 (entries rules s))
    by (refused n r x) = refl
