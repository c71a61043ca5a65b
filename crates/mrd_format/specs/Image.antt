-- The image header (1022) with the 8-byte attribute length after it, the checks that it must pass, and the sizes it gives.
-- Assumes nothing.
use Rattle.std.specs.Prelude.{ℕ, ◌+◌, ◌*◌, ◌≤◌, ◌≡◌, Bool, not, ◌||◌, List, [], ◌∷◌, ◌++◌, map, eqb, ltb, get_or}
use Rattle.mrd_numbers.specs.Little.{num}
use Rattle.mrd_format.specs.Elements.{Run, one, many, element, u16, u32, u64, i32, f32}
use Rattle.mrd_format.specs.Headers.{Cell, field, length_of, runs}
use Rattle.mrd_logic.specs.Checks.{Check, ◌when◌}
use Rattle.mrd_format.specs.Parts.{attributes, pixels}
use Rattle.mrd_format.specs.Segments.{Segment, fixed, counted, sized, total, Form}

pub data Field : Type 0 where
  version data-type flags measurement-uid matrix-size field-of-view channels : Field
  position read-dir phase-dir slice-dir patient-table-position : Field
  average slice contrast phase repetition set acquisition-time-stamp physiology-time-stamp : Field
  image-type image-index image-series-index user-int user-float attribute-string-len : Field

-- 'Image header'
abbrev pub layout : Field → Run
layout version = one 0 u16
layout data-type = one 2 u16
layout flags = one 4 u64
layout measurement-uid = one 12 u32
layout matrix-size = many 16 3 u16
layout field-of-view = many 22 3 f32
layout channels = one 34 u16
layout position = many 36 3 f32
layout read-dir = many 48 3 f32
layout phase-dir = many 60 3 f32
layout slice-dir = many 72 3 f32
layout patient-table-position = many 84 3 f32
layout average = one 96 u16
layout slice = one 98 u16
layout contrast = one 100 u16
layout phase = one 102 u16
layout repetition = one 104 u16
layout set = one 106 u16
layout acquisition-time-stamp = one 108 u32
layout physiology-time-stamp = many 112 3 u32
layout image-type = one 124 u16
layout image-index = one 126 u16
layout image-series-index = one 128 u16
layout user-int = many 130 8 i32
layout user-float = many 162 8 f32
layout attribute-string-len = one 194 u32

-- the fields of the record, in the order of their bytes
abbrev pub fields : List Field
fields =
    version ∷ data-type ∷ flags ∷ measurement-uid ∷ matrix-size ∷ field-of-view ∷ channels ∷
    position ∷ read-dir ∷ phase-dir ∷ slice-dir ∷ patient-table-position ∷
    average ∷ slice ∷ contrast ∷ phase ∷ repetition ∷ set ∷ acquisition-time-stamp ∷ physiology-time-stamp ∷
    image-type ∷ image-index ∷ image-series-index ∷ user-int ∷ user-float ∷ []

-- the header: those fields, and then the attributes' length, which is none of them
abbrev pub cells : List Cell
cells = map (λ (f : Field). field (layout f)) fields ++ (length_of attributes (layout attribute-string-len) ∷ [])

abbrev pub table : List Run
table = runs cells

-- the number in a field's element i
abbrev pub get_at : Field → ℕ → List ℕ → ℕ
get_at f i h = element (layout f) i h

-- the number in a field that has one element
abbrev pub get : Field → List ℕ → ℕ
get f h = get_at f 0 h

-- 'a u64 attribute length A', the 8 bytes after the header
abbrev pub attribute_length : List ℕ → ℕ
attribute_length h = num 8 h 198

-- 'types 1 and 2 have 2 bytes, 3, 4 and 5 have 4, 6 and 7 have 8, 8 has 16'; a number that is no type has none
unfoldable pub element_size : ℕ → ℕ
element_size t = get_or (0 ∷ 2 ∷ 2 ∷ 4 ∷ 4 ∷ 4 ∷ 8 ∷ 8 ∷ 16 ∷ []) t 0

-- 'image data type not 1 to 8'
abbrev pub type_unknown : List ℕ → Bool
type_unknown h = eqb (get data-type h) 0 || ltb 8 (get data-type h)

-- 'The header's number may be that length or 0'
abbrev pub lengths_differ : List ℕ → Bool
lengths_differ h = not (eqb (get attribute-string-len h) 0 || eqb (get attribute-string-len h) (attribute_length h))

-- checks 4 and 8, of a header h with or without the length after it
unfoldable pub header_checks : List ℕ → List Check
header_checks h = (4 when not (eqb (get version h) 1)) ∷ (8 when type_unknown h) ∷ []

-- and check 9
unfoldable pub checks : List ℕ → List Check
checks h = header_checks h ++ ((9 when lengths_differ h) ∷ [])

-- 'the three matrix sizes times channels'
unfoldable pub pixel_count : List ℕ → ℕ
pixel_count h = get_at matrix-size 0 h * get_at matrix-size 1 h * get_at matrix-size 2 h * get channels h

-- 'times the element size'
unfoldable pub pixels_size : List ℕ → ℕ
pixels_size h = pixel_count h * element_size (get data-type h)

-- what follows the fixed part: 'A bytes, then pixels'
abbrev pub body : List ℕ → List Segment
body h = sized attributes (attribute_length h) ∷ sized pixels (pixels_size h) ∷ []

unfoldable pub body_size : List ℕ → ℕ
body_size h = total (body h)

-- 'four sizes, type and attribute length for an image'
unfoldable pub numbers : List ℕ → List ℕ
numbers h =
    get_at matrix-size 0 h ∷ get_at matrix-size 1 h ∷ get_at matrix-size 2 h ∷ get channels h ∷ get data-type h ∷ attribute_length h ∷ []

-- headers that agree in every number of the record's fields
abbrev pub Agree : List ℕ → List ℕ → Type 0
Agree g h = (w i : ℕ) → i + w ≤ 194 → num w g i ≡ num w h i

-- '198 + 8, a u64 attribute length A'
abbrev pub form : Form
form =
    record {
      cells = cells;
      fixed_segments = fixed 198 ∷ counted 8 attributes ∷ [];
      body_segments = body;
      checks = checks;
      numbers = numbers;
      counter = λ h. 0;
      uid = get measurement-uid;
    }
