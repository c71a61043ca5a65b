-- RFC 3629, section 4, 'Syntax of UTF-8 Byte Sequences': its rows as data, and the texts that they make.
-- Assumes nothing.
use Rattle.std.specs.Prelude.{ℕ, ◌≡◌, Bool, true, false, ◌&&◌, ◌||◌, List, [], ◌∷◌, ◌++◌, leb}

-- '%xC2-DF' is `0xC2 to 0xDF`, and '%xE0' is `0xE0 to 0xE0`
pub data Range : Type 0 where
  ◌to◌ : ℕ → ℕ → Range

infix 80 ◌to◌
-- the octet b is in the range, both ends included
abbrev pub inside : Range → ℕ → Bool
inside (lo to hi) b = leb lo b && leb b hi

-- 'UTF8-tail'
abbrev pub tail : Range
tail = 0x80 to 0xBF

-- 'UTF8-1', 'UTF8-2', the four rows of 'UTF8-3' and the three of 'UTF8-4'
abbrev pub rows : List (List Range)
rows =
    (0x00 to 0x7F ∷ []) ∷
    (0xC2 to 0xDF ∷ tail ∷ []) ∷
    (0xE0 to 0xE0 ∷ 0xA0 to 0xBF ∷ tail ∷ []) ∷
    (0xE1 to 0xEC ∷ tail ∷ tail ∷ []) ∷
    (0xED to 0xED ∷ 0x80 to 0x9F ∷ tail ∷ []) ∷
    (0xEE to 0xEF ∷ tail ∷ tail ∷ []) ∷
    (0xF0 to 0xF0 ∷ 0x90 to 0xBF ∷ tail ∷ tail ∷ []) ∷
    (0xF1 to 0xF3 ∷ tail ∷ tail ∷ tail ∷ []) ∷
    (0xF4 to 0xF4 ∷ 0x80 to 0x8F ∷ tail ∷ tail ∷ []) ∷
    []

-- the octets c are as many as the row's ranges, each in its own
abbrev pub fits : List Range → List ℕ → Bool
fits [] [] = true
fits [] (b ∷ c) = false
fits (r ∷ row) [] = false
fits (r ∷ row) (b ∷ c) = inside r b && fits row c

-- 'UTF8-char = UTF8-1 / UTF8-2 / UTF8-3 / UTF8-4': the octets c fit one of the rows
abbrev pub fits_one : List (List Range) → List ℕ → Bool
fits_one [] c = false
fits_one (row ∷ rest) c = fits row c || fits_one rest c

-- 'UTF8-octets = *( UTF8-char )'
pub data Utf8 : List ℕ → Type 0 where
  empty : Utf8 []
  character : (c : List ℕ) {s : List ℕ} → fits_one rows c ≡ true → Utf8 s → Utf8 (c ++ s)
