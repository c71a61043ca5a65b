-- The laws of sizes: products of header numbers stay within 64 bits, and capping early or late is the same.
-- Assumes nothing.
use Rattle.std.specs.Prelude.{ℕ, zero, suc, ◌+◌, ◌*◌, ◌≤◌, ◌≡◌, Bool, true, ◌&&◌, List, [], ◌∷◌, T, leb, get_or}
use Rattle.std.proofs.Common.{mul-le-mul, le-mul_of_pos_right, mul-zero, arith, ap, leb→le}
use Rattle.std.proofs.Math.Nat.{min-eq_left}
use Rattle.std.proofs.Math.Decide.{dec_le}
use Rattle.std.proofs.Math.Facts.{and_yes}
use Rattle.mrd_format.specs.Message.{limit}
use Rattle.mrd_format.specs.Sizes.{capped}
use Rattle.mrd_format.specs.Image.{element_size}

-- a product's bound from those of its factors
pub product : {a b x y : ℕ} → a ≤ x → b ≤ y → a * b ≤ x * y
product = mul-le-mul

-- no data type's elements take more than 16 bytes
pub element_size-small : (t : ℕ) → element_size t ≤ 16
unfolding element_size
element_size-small t = within t (0 ∷ 2 ∷ 2 ∷ 4 ∷ 4 ∷ 4 ∷ 8 ∷ 8 ∷ 16 ∷ []) tt
  where
    small : List ℕ → Bool
    small [] = true
    small (x ∷ xs) = leb x 16 && small xs

    within : (t : ℕ) (xs : List ℕ) → T (small xs) → get_or xs t 0 ≤ 16
    within t [] h = omega arith
    within zero (x ∷ xs) h = leb→le x 16 (and_yes (leb x 16) (small xs) h).0
    within (suc t) (x ∷ xs) h = within t xs (and_yes (leb x 16) (small xs) h).1

-- a factor may be capped before it is multiplied
pub capped-product : (a b : ℕ) → capped (capped a * b) ≡ capped (a * b)
capped-product a zero = simp mul-zero
capped-product a (suc b) =
    let grows : capped a ≤ capped a * suc b = le-mul_of_pos_right (capped a) (omega arith) in
    let grows' : a ≤ a * suc b = le-mul_of_pos_right a (omega arith) in
    elim (dec_le a limit) [
      | yes h ↦ ap (λ (x : ℕ). capped (x * suc b)) (min-eq_left {n = a} {m = suc limit} (omega arith))
      | no h ↦ omega arith
    ]

pub capped_twice : (a : ℕ) → capped (capped a) ≡ capped a
capped_twice a = omega arith

-- summands may be capped before they are added
pub capped-sum : (a b c d : ℕ) → capped a ≡ capped c → capped b ≡ capped d → capped (a + b) ≡ capped (c + d)
capped-sum a b c d p q = omega arith
