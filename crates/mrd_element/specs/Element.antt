-- 'Field': 'by offset; a field comes back as a whole number, a signed number or a 32-bit float, whichever the header list gives'.
-- Assumes nothing.
use Rattle.std.specs.Prelude.{ℕ, zero, suc, ◌+◌, Bool, false, ◌||◌, List, [], ◌∷◌, eqb, ℤ}
use Rattle.mrd_logic.specs.Answer.{Answer, answered, number}
use Rattle.mrd_logic.specs.Choice.{pick}
use Rattle.mrd_numbers.specs.Little.{num}
use Rattle.mrd_format.specs.declared.kind.Kind.{Kind}
use Rattle.mrd_format.specs.Elements.{ElementType, u16, u32, u64, i32, f32, width, Run}
use Rattle.mrd_format.specs.Headers.{runs}
use Rattle.mrd_format.specs.Kinds.{form_of}
use Rattle.mrd_counter_step.specs.Counters as counters

-- the type of the header element that starts at an offset, or that none does
pub data Start : Type 0 where
  starts : ElementType → Start
  none : Start

-- whether one of n elements of w bytes each, the first at `from`, starts at `at`. Every element of an array is an element of its own
abbrev pub starts_among : ℕ → ℕ → ℕ → ℕ → Bool
starts_among zero w from at = false
starts_among (suc n) w from at = eqb at from || starts_among n w (from + w) at

-- the element of a table that starts at `at`
unfoldable pub type_at : List Run → ℕ → Start
type_at [] at = none
type_at (r ∷ rs) at = pick (starts_among r.count (width r.type) r.offset at) (starts r.type) (type_at rs at)

-- the element of a kind's header that starts at `at`
abbrev pub element_at : Kind → ℕ → Start
element_at k at = type_at (runs (form_of k).cells) at

-- what a field holds: 'a whole number, a signed number or a 32-bit float', the float by its bits
pub data FieldValue : Type 0 where
  whole : ℕ → FieldValue
  signed : ℤ → FieldValue
  float : ℕ → FieldValue

-- what an element's bits stand for
abbrev pub value_of : ElementType → ℕ → FieldValue
value_of u16 n = whole n
value_of u32 n = whole n
value_of u64 n = whole n
value_of i32 n = signed (counters.signed n)
value_of f32 n = float n

-- 20: 'no header element starts at that offset, or the record has no header'
abbrev pub read_at : Start → List ℕ → ℕ → Answer FieldValue
read_at (starts t) h at = answered (value_of t (num (width t) h at))
read_at none h at = number 20

-- the header element at an offset of a fixed part h
unfoldable pub element_of : Kind → List ℕ → ℕ → Answer FieldValue
element_of k h at = read_at (element_at k at) h at
