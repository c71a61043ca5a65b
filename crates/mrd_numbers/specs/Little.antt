-- Little-endian numbers in bytes, said once over the width: 'all numbers are little-endian'.
-- Assumes nothing.
use Rattle.std.specs.Prelude.{ℕ, zero, suc, ◌+◌, ◌*◌, ◌/◌, ◌%◌, ◌<◌, List, [], ◌∷◌, take, drop}

-- the number that bytes make, the least significant first
abbrev pub from_bytes : List ℕ → ℕ
from_bytes [] = 0
from_bytes (b ∷ bs) = b + 256 * from_bytes bs

-- the w bytes of a number, the least significant first
abbrev pub to_bytes : ℕ → ℕ → List ℕ
to_bytes zero n = []
to_bytes (suc w) n = n % 256 ∷ to_bytes w (n / 256)

-- the number that the w bytes of s from i on make
unfoldable pub num : ℕ → List ℕ → ℕ → ℕ
num w s i = from_bytes (take w (drop i s))

-- every element is a byte, a number below 256
abbrev pub Bytes : List ℕ → Type 0
Bytes [] = Unit {0}
Bytes (b ∷ bs) = (b < 256) × Bytes bs
