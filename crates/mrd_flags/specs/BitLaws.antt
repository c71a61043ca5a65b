-- The laws of one bit of a number: read after it was made b, the other bits, and the bound. Each once for every bit and both values.
-- Assumes nothing.
use Rattle.std.specs.Prelude.{ℕ, ◌+◌, ◌-◌, ◌*◌, ◌/◌, ◌%◌, ◌^◌, ◌<◌, ◌≡◌}
use Rattle.std.proofs.Common.{mod-lt, add-mul, div-add-mod', ◌∙◌, pow_pos, pow-add, shr_lt}
use Rattle.std.proofs.Math.Decide.{dec_lt}
use native.Mathlib.Omega.{arith}
use Rattle.std.proofs.Math.Path.{sym, ap}
use Rattle.std.proofs.Math.Arith.{digits_lt}
use Rattle.std.proofs.Math.Pow.{split, high, low, shr-shr, field, mod-mod-pow}
use Rattle.mrd_flags.specs.Flags.{bit, with_bit}

-- the number whose bits are those of q, then b, then the k bits of r
abbrev parts : ℕ → ℕ → ℕ → ℕ → ℕ
parts q b k r = (q * 2 + b) * 2 ^ k + r

-- a number is made of its bits above k, bit k, and those below
is_parts : (k x : ℕ) → parts (x / 2 ^ k / 2) (bit k x) k (x % 2 ^ k) ≡ x
unfolding bit
is_parts k x = rw div-add-mod' (split x k)

with_parts : (k b x : ℕ) → with_bit k b x ≡ parts (x / 2 ^ k / 2) b k (x % 2 ^ k)
unfolding with_bit
with_parts k b x =
    let above = x / 2 ^ k / 2 * 2 in
    omega (arith, is_parts k x, add-mul above (bit k x) (2 ^ k), add-mul above b (2 ^ k))

pub bit-below-two : (k x : ℕ) → bit k x < 2
unfolding bit
bit-below-two k x = omega arith

-- bit k of x with bit k made b
pub bit_of_with : (k b x : ℕ) → b < 2 → bit k (with_bit k b x) ≡ b
unfolding bit
bit_of_with k b x h =
    rw (with_parts, high (x / 2 ^ k / 2 * 2 + b) k (mod-lt x (pow_pos k))) (omega arith)

module _ (q b k r : ℕ) (two : b < 2) (small : r < 2 ^ k) where
  -- a bit above k is one of q's
  bit-above : (j i : ℕ) → j ≡ k + (1 + i) → bit j (parts q b k r) ≡ q / 2 ^ i % 2
  unfolding bit
  bit-above j i e =
      let half : (q * 2 + b) / 2 ^ 1 ≡ q = omega arith in
      rw (e, ← shr-shr, high (q * 2 + b) k small, ← shr-shr, half)

  -- a bit below k is one of r's
  bit_below : (j i : ℕ) → k ≡ i + (1 + j) → bit j (parts q b k r) ≡ r % 2 ^ (1 + j) / 2 ^ j
  unfolding bit
  bit_below j i e =
      let kept : parts q b k r % 2 ^ (1 + j) ≡ r % 2 ^ (1 + j) =
      sym (mod-mod-pow (parts q b k r) i (1 + j)) ∙ ap
      (λ (n : ℕ). parts q b k r % 2 ^ n % 2 ^ (1 + j)) (sym e) ∙ ap (λ (n : ℕ). n % 2 ^ (1 + j))
      (low (q * 2 + b) k small) in
      sym (field (parts q b k r) 1 j) ∙ ap (λ (n : ℕ). n / 2 ^ j) kept

-- the other bits do not see bit k
blind : (j k q b d r : ℕ) → (j ≡ k → ⊥) → b < 2 → d < 2 → r < 2 ^ k → bit j (parts q b k r) ≡ bit j (parts q d k r)
blind j k q b d r apart hb hd hr =
    elim (dec_lt j k) [
      | yes below ↦
          let e : k ≡ (k - (1 + j)) + (1 + j) = omega arith in
          bit_below q b k r hb hr j (k - (1 + j)) e ∙ sym (bit_below q d k r hd hr j (k - (1 + j)) e)
      | no above ↦
          let e : j ≡ k + (1 + (j - (1 + k))) = omega arith in
          bit-above q b k r hb hr j (j - (1 + k)) e ∙ sym (bit-above q d k r hd hr j (j - (1 + k)) e)
    ]

-- the other bits stay
pub other_bits_stay : (j k b x : ℕ) → (j ≡ k → ⊥) → b < 2 → bit j (with_bit k b x) ≡ bit j x
other_bits_stay j k b x apart h =
    ap (bit j) (with_parts k b x)
    ∙ blind j k (x / 2 ^ k / 2) b (bit k x) (x % 2 ^ k) apart h (bit-below-two k x) (mod-lt x (pow_pos k))
    ∙ ap (bit j) (is_parts k x)

-- a number of w bits keeps to them
pub with_below : (w k b x : ℕ) → k < w → b < 2 → x < 2 ^ w → with_bit k b x < 2 ^ w
with_below w k b x hk hb hx =
    let j = w - (1 + k) in
    let e : w ≡ (j + 1) + k = omega arith in
    let size : 2 ^ w ≡ 2 ^ j * 2 * 2 ^ k = ap (λ (n : ℕ). 2 ^ n) e ∙ simp pow-add in
    let fits : x < 2 ^ ((j + 1) + k) = rw e at hx in
    rw (with_parts, size) (digits_lt (digits_lt (shr_lt j 1 (shr_lt (j + 1) k fits)) hb) (mod-lt x (pow_pos k)))
