-- 'Flag': 'flag n, 1 to 64, is bit n − 1 of the flags'.
-- Assumes nothing.
use Rattle.std.specs.Prelude.{ℕ, ◌+◌, ◌-◌, ◌*◌, ◌/◌, ◌%◌, ◌^◌, Bool, true, false, ◌&&◌, leb, eqb}

-- bit k of x
unfoldable pub bit : ℕ → ℕ → ℕ
bit k x = x / 2 ^ k % 2

-- x with bit k made b
unfoldable pub with_bit : ℕ → ℕ → ℕ → ℕ
unfolding bit
with_bit k b x = x - bit k x * 2 ^ k + b * 2 ^ k

-- whether n names a flag
abbrev pub is_flag : ℕ → Bool
is_flag n = leb 1 n && leb n 64

abbrev pub changed : Bool → ℕ → ℕ → ℕ → ℕ
changed true n b x = with_bit (n - 1) b x
changed false n b x = x

-- 'Test': 'other n are false'
unfoldable pub flag_test : ℕ → ℕ → Bool
flag_test n x = is_flag n && eqb (bit (n - 1) x) 1

-- 'set and clear with another n give it back'
unfoldable pub flag_set : ℕ → ℕ → ℕ
flag_set n x = changed (is_flag n) n 1 x

unfoldable pub flag_clear : ℕ → ℕ → ℕ
flag_clear n x = changed (is_flag n) n 0 x
