-- The place of a byte in std's words, and what `position` answers of it.
-- Assumes nothing.
use Rattle.std.proofs.Common.{ℕ, zero, suc, ◌+◌, ◌≤◌, ◌<◌, ◌≡◌, Bool, true, false, not, cond, Option, Some, None, List, [], ◌∷◌, length, get_or, refl, sym, ap, ◌∙◌, eqb, ltb, eq-eqb, ne_eqb, arith}
use Rattle.std.proofs.lemmas.Grind.{common_steps}
use Rattle.std.specs.List.{position_or_len}
use Rattle.std.specs.Option.{unwrap_or}
use Rattle.std.proofs.lemmas.List.Sums.{prefix_len-le-length}
use Rattle.std.proofs.lemmas.List.Recursion.{is_position_or_len}
use Rattle.mrd_bytes.specs.Bytes.{index_after, index_of}

index_of_place : (b : ℕ) (xs : List ℕ) → index_of b xs ≡ position_or_len (λ x. eqb x b) xs
unfolding index_of index_after
index_of_place b xs = is_position_or_len (index_of b) (λ x. eqb x b) refl (λ x xs. choice (eqb x b) (index_of b xs)) xs
  where
    choice : (here : Bool) (n : ℕ) → index_after here n ≡ cond here 0 (1 + n)
    choice true n = refl
    choice false n = omega arith

-- the place where there is one, and otherwise the length
found_or : (p n : ℕ) → p ≤ n → unwrap_or (cond (ltb p n) (Some p) None) n ≡ p
found_or p n h = grind (arith, common_steps)

pub found : (b : ℕ) (xs : List ℕ) {answer : Option ℕ} {r : ℕ} →
    answer ≡ cond (ltb (position_or_len (λ x. eqb x b) xs) (length xs)) (Some (position_or_len (λ x. eqb x b) xs)) None →
    r ≡ unwrap_or answer (length xs) → (r ≡ index_of b xs) × (r ≤ length xs)
found b xs {answer} {r} e f =
    let p = position_or_len (λ x. eqb x b) xs in
    let within : p ≤ length xs = prefix_len-le-length (λ x. not (eqb x b)) xs in
    let same : r ≡ p = f ∙ ap (λ (o : Option ℕ). unwrap_or o (length xs)) e ∙ found_or p (length xs) within in
    (same ∙ sym (index_of_place b xs), omega arith)

-- a place with no such byte before it, and that byte there or the end, is the first
pub place_is : (b : ℕ) (xs : List ℕ) (i : ℕ) → i ≤ length xs → ((k : ℕ) → k < i → get_or xs k 0 ≡ b → ⊥) →
    (i < length xs → get_or xs i 0 ≡ b) → index_of b xs ≡ i
unfolding index_of index_after
place_is b [] i h none here = omega arith
place_is b (x ∷ xs) zero h none here = rw (eq-eqb x b (here (omega arith)))
place_is b (x ∷ xs) (suc i) h none here =
    rw (ne_eqb x b (none 0 (omega arith)))
    (ap suc (place_is b xs i (omega arith) (λ k less. none (suc k) (omega arith)) (λ less. here (omega arith))))
