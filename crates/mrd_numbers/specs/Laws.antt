-- The laws of little-endian numbers, each once for every width.
-- Assumes nothing.
use Rattle.std.specs.Prelude.{ℕ, zero, suc, ◌+◌, ◌*◌, ◌%◌, ◌^◌, ◌≤◌, ◌<◌, ◌≡◌, refl, List, [], ◌∷◌, ◌++◌, length, get_or, take, drop}
use Rattle.std.proofs.Common.{zero-add, suc-add, add_comm, zero-mul, mul-one, mul-suc, pow-suc, mul_left_comm, arith, ap, ◌∙◌, length-drop, pow-add, shl_exact, drop-drop, take-take}
use Rattle.std.proofs.Math.Nat.{pow-zero, pow-succ'}
use Rattle.std.specs.Int.Bits.{bit_or, or_shifted_r}
use Rattle.std.proofs.lemmas.List.{take-append-le, drop-append-le}
use Rattle.std.proofs.Math.Seq.{take-nil, drop-nil}
use Rattle.mrd_numbers.specs.Little.{from_bytes, num}

-- a number in a suffix is the number further on in the whole
pub num-drop : (w p : ℕ) (s : List ℕ) (i : ℕ) → num w (drop p s) i ≡ num w s (p + i)
unfolding num
num-drop w p s i = rw drop-drop

-- bytes that lie in a prefix are the whole's
pub part-take : (w n : ℕ) (s : List ℕ) (i : ℕ) → i + w ≤ n → take w (drop i (take n s)) ≡ take w (drop i s)
part-take w n s zero h = take-take w n s (omega arith)
part-take w zero s (suc i) h = absurd (not-all w i h)
  where
    not-all : (w i : ℕ) → suc i + w ≤ 0 → ⊥
    not-all w i h = omega arith
part-take w (suc n) [] (suc i) h = refl
part-take w (suc n) (x ∷ s) (suc i) h = part-take w n s i (omega arith)

-- and so are numbers
pub num-take : (w n : ℕ) (s : List ℕ) (i : ℕ) → i + w ≤ n → num w (take n s) i ≡ num w s i
unfolding num
num-take w n s i h = ap from_bytes (part-take w n s i h)

-- what follows a number does not matter to it
pub num-append : (w : ℕ) (a b : List ℕ) (i : ℕ) → i + w ≤ length a → num w (a ++ b) i ≡ num w a i
unfolding num
num-append w a b i h =
    let le : i ≤ length a = omega arith in
    let fits : w ≤ length (drop i a) = simp length-drop (omega arith) in
    rw (drop-append-le, take-append-le)

-- the bytes of a low part, then those of a high part
from_halves : (m n : ℕ) (s : List ℕ) → from_bytes (take (m + n) s) ≡ from_bytes (take m s) + from_bytes (take n (drop m s)) * 256 ^ m
from_halves zero n s = simp (zero-add, pow-zero, mul-one)
from_halves (suc m) n [] = simp (suc-add, take-nil, zero-add, zero-mul)
from_halves (suc m) n (x ∷ s) =
    let low = from_bytes (take m s) in
    let high = from_bytes (take n (drop m s)) in
    let ih : from_bytes (take (m + n) s) ≡ low + high * 256 ^ m = from_halves m n s in
    let shift : high * 256 ^ suc m ≡ 256 * (high * 256 ^ m) = rw (pow-succ', mul_left_comm) in
    rw (suc-add, ih, shift) (omega arith)

-- a number is its low part and, above that, its high part
pub num-halves : (m n : ℕ) (s : List ℕ) (i : ℕ) → num (m + n) s i ≡ num m s i + num n s (i + m) * 256 ^ m
unfolding num
num-halves m n s i = from_halves m n
    (drop i s) ∙ ap (λ (t : List ℕ). from_bytes (take m (drop i s)) + from_bytes (take n t) * 256 ^ m)
    (drop-drop m i s)

-- one byte
pub num-one : (s : List ℕ) (i : ℕ) → num 1 s i ≡ get_or s i 0
unfolding num
num-one [] i = simp (drop-nil, take-nil)
num-one (x ∷ s) zero = omega arith
num-one (x ∷ s) (suc i) = num-one s i

-- two bytes, and four
two_at : (s : List ℕ) (i j : ℕ) → j ≡ i + 1 → num 2 s i ≡ get_or s i 0 + get_or s j 0 * 256
two_at s i j e = rw e (simp (num-halves 1 1, num-one))

four_at : (s : List ℕ) (i j k l : ℕ) → j ≡ i + 1 → k ≡ i + 2 → l ≡ i + 3 →
    num 4 s i ≡ get_or s i 0 + get_or s j 0 * 256 + get_or s k 0 * 65536 + get_or s l 0 * 16777216
four_at s i j k l e f g =
    let high : num 2 s (i + 2) ≡ get_or s k 0 + get_or s l 0 * 256 = rw (← f) (two_at s k l (omega arith)) in
    num-halves 2 2 s i ∙ omega (arith, two_at s i j e, high)

-- the number of so many bytes, as std puts them together
pub num_two : (s : List ℕ) (i : ℕ) → num 2 s i ≡ get_or s i 0 + get_or s (i + 1) 0 * 256
num_two s i = two_at s i (i + 1) refl

pub num_four : (s : List ℕ) (i : ℕ) → num 4 s i ≡
    get_or s i 0 + get_or s (i + 1) 0 * 256 + get_or s (i + 2) 0 * 65536 + get_or s (i + 3) 0 * 16777216
num_four s i = four_at s i (i + 1) (i + 2) (i + 3) refl refl refl

pub num_eight : (s : List ℕ) (i : ℕ) → num 8 s i ≡
    get_or s i 0 + get_or s (i + 1) 0 * 256 + get_or s (i + 2) 0 * 65536 + get_or s (i + 3) 0 * 16777216 +
    get_or s (i + 4) 0 * 4294967296 + get_or s (i + 5) 0 * 1099511627776 + get_or s (i + 6) 0 * 281474976710656 + get_or s (i + 7) 0 * 72057594037927936
num_eight s i =
    num-halves 4 4 s i ∙
    omega (arith, num_four s i, four_at s (i + 4) (i + 5) (i + 6) (i + 7) (omega arith) (omega arith) (omega arith))

-- so many bytes have eight times so many bits
byte_bits : (w : ℕ) → 2 ^ (8 * w) ≡ 256 ^ w
byte_bits zero = refl
byte_bits (suc w) = rw (mul-suc, pow-suc, pow-add, byte_bits w, pow-suc)

-- the low part, and the high part shifted above it in a word that both fill: their 'or' is the number
pub num-joined :
    (m n : ℕ) (s : List ℕ) (i lo hi : ℕ) → lo ≡ num m s i → hi ≡ num n s (i + m) → lo < 2 ^ (8 * m) → hi < 2 ^ (8 * n) →
    bit_or lo ((hi * 2 ^ (8 * m)) % 2 ^ (8 * n + 8 * m)) ≡ num (m + n) s i
num-joined m n s i lo hi low high small fits =
    let kept : (hi * 2 ^ (8 * m)) % 2 ^ (8 * n + 8 * m) ≡ hi * 2 ^ (8 * m) = shl_exact (8 * n) (8 * m) _ fits (omega arith) in
    rw (kept, or_shifted_r hi (8 * m) lo small, byte_bits, num-halves, ← low, ← high) (add_comm (hi * 256 ^ m) lo)
