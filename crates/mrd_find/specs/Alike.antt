-- Two lists of numbers compared one by one: what is known after i of them, and what the first that differs, or the end, tells.
-- Assumes nothing.
use Rattle.std.specs.Prelude.{ℕ, suc, ◌+◌, ◌≤◌, ◌<◌, ◌≡◌, refl, true, false, ◌&&◌, List, eqb, length, get_or, drop}
use Rattle.std.proofs.Common.{add-one, arith, ◌∙◌, eq-eqb, ne_eqb, drop_of_length-le, drop-cons}
use Rattle.mrd_logic.specs.Lists.{equal}

-- the first i numbers of two lists of n were found the same: whether the lists are is left to the rest
pub record Alike (n : ℕ) (xs ys : List ℕ) (i : ℕ) : Type 0 where
  pub within : i ≤ n
  pub long-left : length xs ≡ n
  pub long-right : length ys ≡ n
  pub rest : equal xs ys ≡ equal (drop i xs) (drop i ys)

pub start : {n : ℕ} {xs ys : List ℕ} → length xs ≡ n → length ys ≡ n → Alike n xs ys 0
start a b = record { within = omega arith; long-left = a; long-right = b; rest = refl }

module _ {n : ℕ} {xs ys : List ℕ} {i : ℕ} (a : Alike n xs ys i) where
  -- the numbers at i, and then the rest
  ahead : i < n → equal xs ys ≡ (eqb (get_or xs i 0) (get_or ys i 0) && equal (drop (suc i) xs) (drop (suc i) ys))
  ahead h =
      let left : i < length xs = omega (arith, a.long-left) in
      let right : i < length ys = omega (arith, a.long-right) in
      a.rest ∙ rw (drop-cons xs i 0 left, drop-cons ys i 0 right)

  -- one more that is the same
  pub step : i < n → get_or xs i 0 ≡ get_or ys i 0 → Alike n xs ys (i + 1)
  step h e =
      record {
        within = omega arith;
        long-left = a.long-left;
        long-right = a.long-right;
        rest = ahead h ∙ rw (eq-eqb _ _ e, add-one i);
      }

  -- one that differs
  pub differs : i < n → (get_or xs i 0 ≡ get_or ys i 0 → ⊥) → equal xs ys ≡ false
  differs h e = ahead h ∙ rw (ne_eqb _ _ e)

  -- none differs
  pub all_same_lem : n ≤ i → equal xs ys ≡ true
  all_same_lem h =
      let left : length xs ≤ i = omega (arith, a.long-left) in
      let right : length ys ≤ i = omega (arith, a.long-right) in
      a.rest ∙ rw (drop_of_length-le xs left, drop_of_length-le ys right)
