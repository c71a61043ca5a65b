-- The front, the entries and the end, stored one after the other, make the index.
-- Assumes nothing.
use Rattle.std.specs.Prelude.{ℕ, ◌+◌, ◌*◌, ◌≤◌, ◌≡◌, refl, List, [], ◌∷◌, ◌++◌, length}
use Rattle.std.proofs.Common.{arith, sym, ap, ◌∙◌, append_assoc, length-append}
use Rattle.mrd_numbers.specs.Stored.{stored, stored-front, length-stored}
use Rattle.mrd_tagged.specs.TaggedLaws.{two-stored}
use Rattle.mrd_logic.specs.Answer.{accepted, answered}
use Rattle.mrd_stream.specs.Walk.{answer}
use Rattle.mrd_stream.specs.Index.{Entry, entries, front_field, entry_field, entry_fields, end_field, index}
use Rattle.mrd_stream.specs.Output.{Answered, output-fits}
use Rattle.mrd_index.specs.Counted.{entries-count}
use Rattle.mrd_format.specs.declared.rules.Rules.{Rules}

-- an entry's field has 17 bytes
entry_fields-long : (es : List Entry) → length (entry_fields es) ≡ 17 * length es
entry_fields-long [] = refl
entry_fields-long (e ∷ es) = rw (length-append (entry_field e) (entry_fields es), entry_fields-long es) (omega arith)

-- an accepted stream of n records
module _ (rules : Rules) (s : List ℕ) {n : ℕ} (e : answer rules s ≡ accepted n) where
  pub entries-long : length (entry_fields (entries rules s)) ≡ 17 * n
  entries-long = rw (entry_fields-long (entries rules s), entries-count rules s e)

  pub index-fields : index rules s ≡ front_field (length s) ++ (entry_fields (entries rules s) ++ end_field n)
  unfolding index
  index-fields = rw (entries-count rules s e)

  pub index-long : length (index rules s) ≡ 16 + 17 * n + 7
  index-long = rw (index-fields, length-append (front_field (length s)), length-append (entry_fields (entries rules s)), entries-long) (omega arith)

  -- an output with room for the index, its front written
  module _ (o a : List ℕ) (h : 16 + 17 * n + 7 ≤ length o) (front : a ≡ stored 0 (front_field (length s)) o) where
    pub entries-room : 16 + length (entry_fields (entries rules s)) ≤ length a
    entries-room = rw (front, length-stored 0 (front_field (length s)) o (omega arith), entries-long) (omega arith)

    -- then the entries and the end
    pub all-written : (b c : List ℕ) → b ≡ stored 16 (entry_fields (entries rules s)) a → c ≡ stored (16 + 17 * n) (end_field n) b →
        Answered rules s (length (index rules s)) (index rules s) o (answered (16 + 17 * n + 7)) c
    all-written b c p q =
        let f = front_field (length s) in
        let es = entry_fields (entries rules s) in
        let t = end_field n in
        let filled : b ≡ stored 0 (f ++ es) o = two-stored o f es 0 16 front p refl (omega arith) in
        let place : 16 + 17 * n ≡ 0 + length (f ++ es) = rw (length-append f es, entries-long) (omega arith) in
        let ended : c ≡ stored 0 ((f ++ es) ++ t) o = two-stored o (f ++ es) t 0 (16 + 17 * n) filled q place (omega arith) in
        let whole : (f ++ es) ++ t ≡ index rules s = append_assoc f es t ∙ sym index-fields in
        let right = output-fits rules s (length (index rules s)) (index rules s) o e (rw index-long h) in
        (ap answered (sym index-long) ∙ right.0, ended ∙ rw whole (stored-front (index rules s) o ∙ right.1))
