-- 'Counter step' between two scan counters.
-- Assumes nothing.
use Rattle.std.specs.Prelude.{ℕ, ◌+◌, ◌-◌, ◌%◌, ◌^◌, Bool, true, false, ℤ, pos, negsuc, nat_lt}

abbrev pub signed_by : Bool → ℕ → ℤ
signed_by true d = pos d
signed_by false d = negsuc (2 ^ 32 - 1 - d)

-- a number of 32 bits 'read as signed'
unfoldable pub signed : ℕ → ℤ
signed d = signed_by (nat_lt d (2 ^ 31)) d

-- 'later minus earlier, taken around the 32-bit wrap and read as signed'
unfoldable pub counter_step : ℕ → ℕ → ℤ
unfolding signed
counter_step earlier later = signed ((later + (2 ^ 32 - earlier)) % 2 ^ 32)
