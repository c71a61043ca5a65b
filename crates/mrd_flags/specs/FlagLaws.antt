-- The laws of flags: what test, set and clear have to do with each other, and the masks that they work by.
-- Set and clear differ only in the value b that the flag is made, and what holds of both is proved once over b.
-- Assumes nothing.
use Rattle.std.specs.Prelude.{ℕ, zero, suc, ◌-◌, ◌*◌, ◌%◌, ◌^◌, ◌≤◌, ◌<◌, ◌≡◌, refl, Bool, true, false, not, ◌&&◌, T, leb, eqb}
use Rattle.std.proofs.Common.{zero-mul, one-mul, arith, sym, ap, ◌∙◌, lit<, leb→le, pow_pos, shl_exact, le-leb, ne_eqb}
use Rattle.std.proofs.Math.Nat.{sub-zero}
use Rattle.std.proofs.Math.Bool.{and-false}
use Rattle.std.specs.Int.Bits.{bit_and, bit_or, and_zero_r, or_zero_r}
use Rattle.std.proofs.Math.Facts.{and_yes}
use Rattle.mrd_flags.specs.Flags.{bit, with_bit, is_flag, changed, flag_test, flag_set, flag_clear}
use Rattle.mrd_flags.specs.BitLaws.{bit-below-two, bit_of_with, other_bits_stay, with_below}
use Rattle.mrd_flags.specs.BitMaskLaws.{and_complement, and-bit, or-bit, less_bit}

-- 'flag n, 1 to 64'
pub flag_range : (n : ℕ) → T (is_flag n) → (1 ≤ n) × (n ≤ 64)
flag_range n t =
    let both = and_yes (leb 1 n) (leb n 64) t in
    (leb→le 1 n both.0, leb→le n 64 both.1)

-- a flag made b is then read as b
made-then_read : (f : Bool) (n b x : ℕ) → b < 2 → (f && eqb (bit (n - 1) (changed f n b x)) 1) ≡ (f && eqb b 1)
made-then_read true n b x h = ap (λ (d : ℕ). eqb d 1) (bit_of_with (n - 1) b x h)
made-then_read false n b x h = refl

-- the others stay
made_keeps_others :
    (f g : Bool) (m n b x : ℕ) → (T f → T g → m - 1 ≡ n - 1 → ⊥) → b < 2 →
    (f && eqb (bit (m - 1) (changed g n b x)) 1) ≡ (f && eqb (bit (m - 1) x) 1)
made_keeps_others true true m n b x apart h = ap (λ (d : ℕ). eqb d 1) (other_bits_stay (m - 1) (n - 1) b x (apart tt tt) h)
made_keeps_others true false m n b x apart h = refl
made_keeps_others false g m n b x apart h = refl

apart_below : (m n : ℕ) → (m ≡ n → ⊥) → T (is_flag m) → T (is_flag n) → m - 1 ≡ n - 1 → ⊥
apart_below m n apart tm tn e = apart (omega (arith, flag_range m tm, flag_range n tn))

made-below : (f : Bool) (n b x : ℕ) → (T f → n - 1 < 64) → b < 2 → x < 2 ^ 64 → changed f n b x < 2 ^ 64
made-below true n b x small hb hx = with_below 64 (n - 1) b x (small tt) hb hx
made-below false n b x small hb hx = hx

bit_in_range : (n : ℕ) → T (is_flag n) → n - 1 < 64
bit_in_range n t = omega (arith, flag_range n t)

pub set-then_test : (n x : ℕ) → 1 ≤ n → n ≤ 64 → flag_test n (flag_set n x) ≡ true
unfolding flag_test flag_set
set-then_test n x low high = made-then_read (is_flag n) n 1 x (omega arith) ∙ simp (le-leb 1 n low, le-leb n 64 high)

pub clear_then_test : (n x : ℕ) → flag_test n (flag_clear n x) ≡ false
unfolding flag_test flag_clear
clear_then_test n x = made-then_read (is_flag n) n 0 x (omega arith) ∙ and-false (is_flag n)

pub set_keeps_others : (m n x : ℕ) → (m ≡ n → ⊥) → flag_test m (flag_set n x) ≡ flag_test m x
unfolding flag_test flag_set
set_keeps_others m n x apart = made_keeps_others (is_flag m) (is_flag n) m n 1 x (apart_below m n apart) (omega arith)

pub clear_keeps_others : (m n x : ℕ) → (m ≡ n → ⊥) → flag_test m (flag_clear n x) ≡ flag_test m x
unfolding flag_test flag_clear
clear_keeps_others m n x apart = made_keeps_others (is_flag m) (is_flag n) m n 0 x (apart_below m n apart) (omega arith)

pub set_below : (n x : ℕ) → x < 2 ^ 64 → flag_set n x < 2 ^ 64
unfolding flag_set
set_below n x h = made-below (is_flag n) n 1 x (bit_in_range n) (omega arith) h

pub clear_below : (n x : ℕ) → x < 2 ^ 64 → flag_clear n x < 2 ^ 64
unfolding flag_clear
clear_below n x h = made-below (is_flag n) n 0 x (bit_in_range n) (omega arith) h

-- 'flag 7 alone is the value 64'
pub flag_seven_alone : flag_set 7 0 ≡ 64
unfolding flag_set with_bit bit
flag_seven_alone = refl

-- ---- by the mask of flag n alone, which is 0 where n names no flag

alone : (k : ℕ) → with_bit k 1 0 ≡ 2 ^ k
alone k = sym (or-bit k 0)

pub shifted_mask : (n : ℕ) → 1 ≤ n → n ≤ 64 → 1 * 2 ^ (n - 1) % 2 ^ 64 ≡ flag_set n 0
unfolding flag_set
shifted_mask n low high =
    simp (le-leb 1 n low, le-leb n 64 high, alone) (shl_exact 1 (n - 1) 64 (omega arith) (omega arith) ∙ one-mul (2 ^ (n - 1)))

digit_test : (d k : ℕ) → d < 2 → not (eqb (d * 2 ^ k) 0) ≡ eqb d 1
digit_test zero k h = rw zero-mul
digit_test (suc zero) k h = rw (one-mul, ne_eqb (2 ^ k) 0 (λ e. omega (arith, pow_pos k)))
digit_test (suc (suc d)) k h = absurd (omega arith)

tested : (f : Bool) (n x : ℕ) → not (eqb (bit_and x (changed f n 1 0)) 0) ≡ (f && eqb (bit (n - 1) x) 1)
tested true n x = rw (alone, and-bit) (digit_test (bit (n - 1) x) (n - 1) (bit-below-two (n - 1) x))
tested false n x = rw and_zero_r

pub test_by_mask : (n x : ℕ) → not (eqb (bit_and x (flag_set n 0)) 0) ≡ flag_test n x
unfolding flag_test flag_set
test_by_mask n x = tested (is_flag n) n x

set : (f : Bool) (n x : ℕ) → bit_or x (changed f n 1 0) ≡ changed f n 1 x
set true n x = rw alone (or-bit (n - 1) x)
set false n x = or_zero_r x

pub set-by_mask : (n x : ℕ) → bit_or x (flag_set n 0) ≡ flag_set n x
unfolding flag_set
set-by_mask n x = set (is_flag n) n x

cleared : (f : Bool) (n x : ℕ) → x - bit_and x (changed f n 1 0) ≡ changed f n 0 x
cleared true n x = rw alone (less_bit (n - 1) x)
cleared false n x = rw (and_zero_r, sub-zero)

pub clear_by_mask : (n x : ℕ) → x < 2 ^ 64 → bit_and x (2 ^ 64 - 1 - flag_set n 0) ≡ flag_clear n x
unfolding flag_clear flag_set
clear_by_mask n x h = omega (arith, and_complement 64 x (flag_set n 0) h (set_below n 0 (lit< tt)), cleared (is_flag n) n x)
