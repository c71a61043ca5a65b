-- Header elements: where each stands in its header, and how it is kept.
-- Assumes nothing.
use Rattle.std.specs.Prelude.{ℕ, zero, suc, ◌+◌, ◌*◌, List, [], ◌∷◌}
use Rattle.mrd_numbers.specs.Little.{num}

-- a whole number of 2, 4 or 8 bytes, a signed number in two's complement, or an IEEE 754 float
pub data ElementType : Type 0 where
  u16 u32 u64 i32 f32 : ElementType

-- the bytes that one element takes
abbrev pub width : ElementType → ℕ
width u16 = 2
width u32 = 4
width u64 = 8
width i32 = 4
width f32 = 4

-- `count` elements of one type, one after the other from `offset` on
pub record Run : Type 0 where
  pub offset : ℕ
  pub count : ℕ
  pub type : ElementType

abbrev pub one : ℕ → ElementType → Run
one at t = record { offset = at; count = 1; type = t }

abbrev pub many : ℕ → ℕ → ElementType → Run
many at n t = record { offset = at; count = n; type = t }

-- the bits of a run's element i, in the header h, as a number: floats and signed numbers too are compared by their bits
abbrev pub element : Run → ℕ → List ℕ → ℕ
element r i h = num (width r.type) h (r.offset + i * width r.type)

-- the numbers of n elements of w bytes each, from a byte on
abbrev pub elements_from : ℕ → ℕ → ℕ → List ℕ → List ℕ
elements_from zero w at h = []
elements_from (suc n) w at h = num w h at ∷ elements_from n w (at + w) h

-- a run's elements
abbrev pub elements : Run → List ℕ → List ℕ
elements r h = elements_from r.count (width r.type) r.offset h
