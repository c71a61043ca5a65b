-- Numbers written as bytes and read back, each law once for every width.
-- Assumes nothing.
use Rattle.std.specs.Prelude.{ℕ, zero, suc, ◌+◌, ◌*◌, ◌/◌, ◌%◌, ◌^◌, ◌<◌, ◌≡◌, refl, List, [], ◌∷◌, length}
use Rattle.std.proofs.Math.Nat.{pow-succ'}
use Rattle.std.proofs.Common.{arith, ap, ap₂, ◌∙◌}
use Rattle.mrd_numbers.specs.Little.{from_bytes, to_bytes, Bytes}

-- a number is written as so many bytes as its width
pub length-to_bytes : (w n : ℕ) → length (to_bytes w n) ≡ w
length-to_bytes zero n = refl
length-to_bytes (suc w) n = ap suc (length-to_bytes w (n / 256))

-- what was written reads back, where the number fits
pub from-to : (w n : ℕ) → n < 256 ^ w → from_bytes (to_bytes w n) ≡ n
from-to zero n h = omega arith
from-to (suc w) n h =
    let fits : n < 256 * 256 ^ w = rw pow-succ' at h in
    let ih : from_bytes (to_bytes w (n / 256)) ≡ n / 256 = from-to w (n / 256) (omega arith) in
    rw ih (omega arith)

-- what was read is written as the same bytes
pub to-from : (bs : List ℕ) → Bytes bs → to_bytes (length bs) (from_bytes bs) ≡ bs
to-from [] h = refl
to-from (b ∷ bs) h =
    let low : (b + 256 * from_bytes bs) % 256 ≡ b = omega (arith, h.0) in
    let high : (b + 256 * from_bytes bs) / 256 ≡ from_bytes bs = omega (arith, h.0) in
    ap₂ (λ (x : ℕ) (xs : List ℕ). x ∷ xs) low (ap (to_bytes (length bs)) high ∙ to-from bs h.1)
