-- The answers about one record as the C structs: `refusal`, `record` and `byte` say what is refused and where, and what an answer lacks is 0.
-- Assumes nothing.
use Rattle.std.specs.Prelude.{ℕ, ℤ, pos}
use Rattle.mrd_logic.specs.Answer.{Answer, answered, stream, number}
use Rattle.mrd_element.specs.Element.{FieldValue, whole, signed, float}
use Rattle.mrd_views.specs.declared.views.Span.{Span}
use Rattle.c_record.specs.declared.view.ViewPlace.{ViewPlace}
use Rattle.c_record.specs.declared.field.FieldAnswer.{FieldAnswer}
use Rattle.c_record.specs.declared.found.Found.{Found}

-- a view's place
abbrev pub view_as : (refusal r byte start length : ℕ) → ViewPlace
view_as f r b i z = record { refusal = f; «record» = r; byte = b; start = i; length = z }

abbrev pub c_view : Answer Span → ViewPlace
c_view (answered x) = view_as 0 0 0 x.start x.length
c_view (stream f r b) = view_as f r b 0 0
c_view (number n) = view_as n 0 0 0 0

-- a field, its type by number: 1 whole, 2 signed, 3 float
abbrev pub field_as : (refusal r byte type whole : ℕ) → (integer : ℤ) → (float : ℕ) → FieldAnswer
field_as f r b t w i x =
    record { refusal = f; «record» = r; byte = b; value_type = t; whole = w; integer = i; float_bits = x }

abbrev pub refused_field : (refusal r byte : ℕ) → FieldAnswer
refused_field f r b = field_as f r b 0 0 (pos 0) 0

abbrev pub c_value : FieldValue → FieldAnswer
c_value (whole n) = field_as 0 0 0 1 n (pos 0) 0
c_value (signed z) = field_as 0 0 0 2 0 z 0
c_value (float n) = field_as 0 0 0 3 0 (pos 0) n

abbrev pub c_field : Answer FieldValue → FieldAnswer
c_field (answered v) = c_value v
c_field (stream f r b) = refused_field f r b
c_field (number n) = refused_field n 0 0

-- what was looked for
abbrev pub found_as : (refusal r byte number : ℕ) → Found
found_as f r b n = record { refusal = f; «record» = r; byte = b; number = n }

abbrev pub c_found : Answer ℕ → Found
c_found (answered i) = found_as 0 0 0 i
c_found (stream f r b) = found_as f r b 0
c_found (number n) = found_as n 0 0 0
