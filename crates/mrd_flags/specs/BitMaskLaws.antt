-- Bit operations with one bit alone, in the words of `bit` and `with_bit`: 'and' reads it, 'or' sets it, 'and not' clears it.
-- Assumes nothing.
use Rattle.std.specs.Prelude.{ℕ, zero, suc, ◌+◌, ◌-◌, ◌*◌, ◌/◌, ◌%◌, ◌^◌, ◌<◌, min, ◌≡◌}
use Rattle.std.proofs.Common.{pow-suc, arith, ap, ap₂, ◌∙◌, pow-add}
use Rattle.std.specs.Int.Bits.{bit_and, bit_or, and_step, or_add_and}
use Rattle.std.proofs.lemmas.Nat.Bits.{and_high}
use Rattle.std.proofs.lemmas.Nat.{and_le_l}
use Rattle.mrd_flags.specs.Flags.{bit, with_bit}

-- one digit: what c lets through, and what its complement does
min_complement : (a c : ℕ) → a < 2 → c < 2 → min a (1 - c) + min a c ≡ a
min_complement a c ha hc = omega arith

-- what a mask lets through and what its complement lets through make up the number
pub and_complement : (w x m : ℕ) → x < 2 ^ w → m < 2 ^ w → bit_and x (2 ^ w - 1 - m) + bit_and x m ≡ x
and_complement zero x m hx hm =
    let none : x ≡ 0 = omega arith in
    rw none
and_complement (suc w) x m hx hm =
    let twice = pow-suc 2 w in
    let n = 2 ^ suc w - 1 - m in
    let half : n / 2 ≡ 2 ^ w - 1 - m / 2 = omega (arith, twice) in
    let odd : n % 2 ≡ 1 - m % 2 = omega (arith, twice) in
    let rest : bit_and x n ≡ bit_and (x / 2) (2 ^ w - 1 - m / 2) * 2 + min (x % 2) (1 - m % 2) =
    and_step x n ∙ ap₂ (λ (h o : ℕ). bit_and (x / 2) h * 2 + min (x % 2) o) half odd in
    omega (
      arith,
      rest,
      and_step x m,
      min_complement (x % 2) (m % 2) (omega arith) (omega arith),
      and_complement w (x / 2) (m / 2) (omega (arith, twice)) (omega (arith, twice)),
    )

-- 'and' with bit k alone
pub and-bit : (k x : ℕ) → bit_and x (2 ^ k) ≡ bit k x * 2 ^ k
unfolding bit
and-bit k x =
    let alone : 2 ^ k ≡ 2 ^ (1 + k) - 2 ^ k = rw (pow-add 2 1 k) (omega arith) in
    ap (bit_and x) alone ∙ and_high x 1 k

-- 'or' with bit k alone
pub or-bit : (k x : ℕ) → bit_or x (2 ^ k) ≡ with_bit k 1 x
unfolding with_bit
or-bit k x = omega (arith, or_add_and x (2 ^ k), and-bit k x, and_le_l x (2 ^ k))

-- what 'and' with bit k alone takes away
pub less_bit : (k x : ℕ) → x - bit_and x (2 ^ k) ≡ with_bit k 0 x
unfolding with_bit
less_bit k x = omega (arith, and-bit k x)
