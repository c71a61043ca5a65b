-- The laws of 32 bits as a float: a NaN's are given as they are, and any other's are read back from the float.
-- Assumes nothing.
use Rattle.std.specs.Prelude.{ℕ, ◌%◌, ◌^◌, ◌≤◌, ◌<◌, refl, not, T}
use Rattle.std.proofs.Common.{ap, lt-ltb, le-ltb}
use Rattle.std.specs.Float.{binary32}
use Rattle.std.specs.Float.Ieee.{of_bits, nan_bits}
use Rattle.std.specs.Float.Ieee.Bits.{to_bits-of_bits, nan_bits_is, nan_bits_above}
use Rattle.mrd_element.specs.declared.value.Value.{Value}
use Rattle.mrd_element.specs.Element.{float}
use Rattle.mrd_element.specs.ValueMeaning.{TellsValue}

-- without its sign, a NaN's pattern is above the infinity's
pub nan_meaning : (n : ℕ) → 0x7f80_0000 < n % 0x8000_0000 → TellsValue (Value.Nan n) (float n)
nan_meaning n h = record { says = refl; apart = rw (nan_bits_above, lt-ltb _ _ h) tt }

pub no_nan : (n : ℕ) → n % 0x8000_0000 ≤ 0x7f80_0000 → T (not (nan_bits binary32 n))
no_nan n h = rw (nan_bits_above, le-ltb _ _ h) tt

pub float-meaning : (n : ℕ) → n < 2 ^ 32 → n % 0x8000_0000 ≤ 0x7f80_0000 → TellsValue (Value.Float (of_bits binary32 n)) (float n)
float-meaning n small h =
    let plain = rw nan_bits_is at (no_nan n h) in
    record { says = ap float (to_bits-of_bits binary32 n small plain); apart = plain }
