-- 'Field', of a record of a stream.
-- Assumes nothing.
use Rattle.std.specs.Prelude.{ℕ, ◌≡◌, Bool, true, List, T, Result, Ok, Err}
use Rattle.mrd_logic.specs.Answer.{Answer, and_then}
use Rattle.mrd_format.specs.Message.{fixed_part}
use Rattle.mrd_stream.specs.Places.{Located, place}
use Rattle.mrd_stream.specs.Refused.{told}
use Rattle.mrd_stream.specs.declared.refused.Refused.{Refused}
use Rattle.mrd_cut.specs.CutPlaces.{part_at}
use Rattle.mrd_element.specs.Element.{FieldValue, element_of}
use Rattle.mrd_element.specs.ValueMeaning.{value_meaning, nan_apart}
use Rattle.mrd_element.specs.declared.value.Value.{Value}
use Rattle.mrd_format.specs.declared.rules.Rules.{Rules}

-- the field at an offset of the record whose place is answered
abbrev pub field_by : Answer Located → ℕ → List ℕ → Answer FieldValue
field_by a o s = and_then a (λ l. element_of l.kind (fixed_part l.kind (part_at s l)) o)

-- the field at an offset of record n: the stream's refusal first, then 16, then 20
unfoldable pub field_of : Rules → List ℕ → ℕ → ℕ → Answer FieldValue
field_of rules s n o = field_by (place rules s n) o s

-- what an answer says
abbrev pub field_meaning : Result Value Refused → Answer FieldValue
field_meaning r = told value_meaning r

abbrev pub field_apart : Result Value Refused → Bool
field_apart (Ok v) = nan_apart v
field_apart (Err e) = true

-- an answer that says this, with NaNs, and only NaNs, in the case that is meant for them
pub record TellsField (f : Result Value Refused) (a : Answer FieldValue) : Type 0 where
  pub says : field_meaning f ≡ a
  pub apart : T (field_apart f)
