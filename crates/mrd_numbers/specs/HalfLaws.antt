-- Numbers stored in two halves, each law once for every width.
-- Assumes nothing.
use Rattle.std.specs.Prelude.{ℕ, zero, suc, ◌+◌, ◌*◌, ◌/◌, ◌%◌, ◌^◌, ◌≤◌, ◌<◌, ◌≡◌, List, ◌++◌, length, drop}
use Rattle.std.proofs.Common.{suc-add, zero-add, mul-one, mul_left_comm, mod-lt, arith, sym, ap, ◌∙◌, take_at}
use Rattle.std.proofs.Math.Nat.{pow-zero, pow-succ', mod-add-div'}
use Rattle.std.proofs.Math.Seq.{drop-append_seam}
use Rattle.mrd_numbers.specs.Little.{to_bytes, num}
use Rattle.mrd_numbers.specs.ToBytesLaws.{length-to_bytes, from-to}
use Rattle.mrd_numbers.specs.Stored.{front, part_from, returned, front-two}

-- a number is written as its low part and, after that, its high part
pub to-halves : (m n a b : ℕ) → a < 256 ^ m → to_bytes (m + n) (a + b * 256 ^ m) ≡ to_bytes m a ++ to_bytes n b
to-halves zero n a b h =
    let one : a < 1 = rw pow-zero at h in
    let none : a ≡ 0 = omega arith in
    rw (none, pow-zero, mul-one, zero-add, zero-add)
to-halves (suc m) n a b h =
    let fits : a < 256 * 256 ^ m = rw pow-succ' at h in
    let shift : b * 256 ^ suc m ≡ 256 * (b * 256 ^ m) = rw (pow-succ', mul_left_comm) in
    let low : (a + 256 * (b * 256 ^ m)) % 256 ≡ a % 256 = omega arith in
    let high : (a + 256 * (b * 256 ^ m)) / 256 ≡ a / 256 + b * 256 ^ m = omega arith in
    rw (suc-add, shift, low, high, to-halves m n (a / 256) b (omega arith))

-- a power of 256 is not zero
power_pos : (w : ℕ) → 0 < 256 ^ w
power_pos zero = rw pow-zero (omega arith)
power_pos (suc w) = let ih : 0 < 256 ^ w = power_pos w in rw pow-succ' (omega arith)

-- a number's low half stored in a part passed on from the front, and then its high half in the part after it
pub halves-stored : (w v : ℕ) (o x y : List ℕ) → w + w ≤ length o → x ≡ to_bytes w (v % 256 ^ w) ++ drop w (part_from 0 o) →
    y ≡ to_bytes w (v / 256 ^ w) ++ drop w (part_from w (returned 0 o x)) → returned w (returned 0 o x) y ≡ to_bytes (w + w) v ++ drop (w + w) o
halves-stored w v o x y fits p q =
    let low = to_bytes w (v % 256 ^ w) in
    let high = to_bytes w (v / 256 ^ w) in
    let whole : low ++ high ≡ to_bytes (w + w) v =
    sym (to-halves w w _ _ (mod-lt v (power_pos w))) ∙ ap (to_bytes (w + w)) (mod-add-div' v (256 ^ w)) in
    let two : returned w (returned 0 o x) y ≡ front (low ++ high) o =
    front-two w w o low high x y (length-to_bytes w _) (length-to_bytes w _) (omega arith) p q in
    rw length-to_bytes at (rw whole at two)

-- a number reads back where it was written
pub read_after_write : (w v : ℕ) (before after : List ℕ) → v < 256 ^ w → num w (before ++ (to_bytes w v ++ after)) (length before) ≡ v
unfolding num
read_after_write w v before after h =
    rw (drop-append_seam, take_at (to_bytes w v) after w (length-to_bytes w v)) (from-to w v h)
