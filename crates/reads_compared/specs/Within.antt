-- A number read where its bytes lie in the slice, so that any slice and any place can be asked about.
-- Assumes nothing.
use Rattle.std.specs.Prelude.{ℕ, zero, suc, ◌+◌, ◌≡◌, Bool, true, false, List, leb, eqb, length}
use Rattle.std.proofs.Common.{arith, ap₂}
use Rattle.std.specs.Int.Bits.{bit_xor}
use Rattle.mrd_logic.specs.Choice.{pick}
use Rattle.mrd_numbers.specs.Little.{num}

-- whether the w bytes from `at` on lie in s
abbrev pub lies : ℕ → List ℕ → ℕ → Bool
lies w s at = leb (at + w) (length s)

-- the number that they make, and 0 where they do not lie in s
abbrev pub num_within : ℕ → List ℕ → ℕ → ℕ
num_within w s at = pick (lies w s at) (num w s at) 0

-- the widths that there are: 2, 4, and 8 for any other
abbrev pub read_width : ℕ → ℕ
read_width w = pick (eqb w 2) 2 (pick (eqb w 4) 4 8)

-- the numbers at the first n places, taken together by 'exclusive or'
abbrev pub xor_to : ℕ → List ℕ → ℕ → ℕ
xor_to w s zero = 0
xor_to w s (suc n) = bit_xor (xor_to w s n) (num_within w s n)

-- a read's answer where they do, and the answer where they do not
pub inside : (w : ℕ) (s : List ℕ) (at r : ℕ) → lies w s at ≡ true → r ≡ num w s at → r ≡ num_within w s at
inside w s at r whole e = rw whole e

pub outside : (w : ℕ) (s : List ℕ) (at : ℕ) → lies w s at ≡ false → 0 ≡ num_within w s at
outside w s at short = rw short

-- one place more
pub xor_more : (w : ℕ) (s : List ℕ) (i x y : ℕ) → x ≡ xor_to w s i → y ≡ num_within w s i → bit_xor x y ≡ xor_to w s (i + 1)
xor_more w s i x y p q =
    let next : i + 1 ≡ suc i = omega arith in
    rw next (ap₂ bit_xor p q)
