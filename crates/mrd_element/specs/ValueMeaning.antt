-- What each case of the enum `Value` says, and 20 where there is none. A float is given by its bits.
-- Assumes nothing.
use Rattle.std.specs.Prelude.{◌≡◌, Bool, true, not, T, Option, Some, None}
use Rattle.std.specs.Float.{binary32}
use Rattle.std.specs.Float.Ieee.{to_bits, is_nan, nan_bits}
use Rattle.mrd_logic.specs.Answer.{Answer, answered, number}
use Rattle.mrd_element.specs.declared.value.Value.{Value}
use Rattle.mrd_element.specs.Element.{FieldValue, whole, signed, float}

abbrev pub value_meaning : Value → FieldValue
value_meaning (Value.Whole n) = whole n
value_meaning (Value.Signed z) = signed z
value_meaning (Value.Float x) = float (to_bits binary32 x)
value_meaning (Value.Nan n) = float n

abbrev pub element_meaning : Option Value → Answer FieldValue
element_meaning (Some v) = answered (value_meaning v)
element_meaning None = number 20

-- a NaN's bits, and no others, stand in the case for NaNs
abbrev pub nan_apart : Value → Bool
nan_apart (Value.Whole n) = true
nan_apart (Value.Signed z) = true
nan_apart (Value.Float x) = not (is_nan x)
nan_apart (Value.Nan n) = nan_bits binary32 n

abbrev pub element_apart : Option Value → Bool
element_apart (Some v) = nan_apart v
element_apart None = true

-- a value that says this, in the case that is meant for it
pub record TellsValue (v : Value) (x : FieldValue) : Type 0 where
  pub says : value_meaning v ≡ x
  pub apart : T (nan_apart v)

-- and one, or none, that answers this
pub record TellsElement (e : Option Value) (a : Answer FieldValue) : Type 0 where
  pub says : element_meaning e ≡ a
  pub apart : T (element_apart e)
