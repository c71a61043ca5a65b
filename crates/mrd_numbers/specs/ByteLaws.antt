-- Parts of bytes are bytes; and a number that was read is written as the bytes it was read from.
-- Assumes nothing.
use Rattle.std.specs.Prelude.{ℕ, zero, suc, ◌+◌, ◌≤◌, ◌≡◌, List, [], ◌∷◌, ◌++◌, length, get_or, take, drop}
use Rattle.std.proofs.Common.{arith, ap, sym, ◌∙◌, length-drop, length-take-le, Fits}
use Rattle.std.specs.Int.{w8}
use Rattle.mrd_numbers.specs.Little.{from_bytes, to_bytes, num, Bytes}
use Rattle.mrd_numbers.specs.ToBytesLaws.{to-from}

-- the elements of every slice of bytes are bytes
pub all-bytes : (f : List ℕ) → ((i : ℕ) → Fits w8 (get_or f i 0)) → Bytes f
all-bytes [] h = tt
all-bytes (b ∷ f) h = ((h 0).fits, all-bytes f (λ i. h (suc i)))

pub bytes_take : (n : ℕ) (s : List ℕ) → Bytes s → Bytes (take n s)
bytes_take zero s b = tt
bytes_take (suc n) [] b = tt
bytes_take (suc n) (x ∷ s) b = (b.0, bytes_take n s b.1)

pub bytes_drop : (n : ℕ) (s : List ℕ) → Bytes s → Bytes (drop n s)
bytes_drop zero s b = b
bytes_drop (suc n) [] b = tt
bytes_drop (suc n) (x ∷ s) b = bytes_drop n s b.1

pub bytes-split : (s t : List ℕ) → Bytes (s ++ t) → Bytes s × Bytes t
bytes-split [] t b = (tt, b)
bytes-split (x ∷ s) t b = let r = bytes-split s t b.1 in ((b.0, r.0), r.1)

-- the number that w bytes make is written as those bytes
pub write_num : (w : ℕ) (s : List ℕ) (i : ℕ) → Bytes s → i + w ≤ length s → to_bytes w (num w s i) ≡ take w (drop i s)
unfolding num
write_num w s i b fits =
    let room : w ≤ length (drop i s) = simp length-drop (omega arith) in
    let part = take w (drop i s) in
    ap (λ (n : ℕ). to_bytes n (from_bytes part))
    (sym (length-take-le w (drop i s) room)) ∙ to-from part (bytes_take w (drop i s) (bytes_drop i s b))
