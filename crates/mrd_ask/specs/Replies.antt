-- What is replied to a question about a record.
-- Assumes nothing.
use Rattle.std.specs.Prelude.{ℕ, ◌≡◌, Bool, true, T, Result, Ok, Err}
use Rattle.mrd_logic.specs.Answer.{Answer, answered, and_then}
use Rattle.mrd_stream.specs.Places.{Located}
use Rattle.mrd_stream.specs.declared.refused.Refused.{Refused}
use Rattle.mrd_stream.specs.Refused.{told}
use Rattle.mrd_stream.specs.ReaderMeaning.{record_meaning}
use Rattle.mrd_element.specs.Element.{FieldValue}
use Rattle.mrd_element.specs.ValueMeaning.{value_meaning, nan_apart}
use Rattle.mrd_views.specs.declared.views.Span.{Span}
use Rattle.mrd_ask.specs.declared.question.Reply.{Reply}

-- place and kind, a view's place, a field's value, the number of the record found
pub data Replied : Type 0 where
  place : Located → Replied
  view : Span → Replied
  field : FieldValue → Replied
  found : ℕ → Replied

-- a question's answer as a reply; its refusals stay
abbrev pub reply : {A : Type 0} → (A → Replied) → Answer A → Answer Replied
reply f a = and_then a (λ x. answered (f x))

-- what each case of the enum says: the paper's values
abbrev pub replied_as : Reply → Replied
replied_as (Reply.Place r) = place (record_meaning r)
replied_as (Reply.View x) = view x
replied_as (Reply.Field v) = field (value_meaning v)
replied_as (Reply.Found i) = found i

-- and what a refusal says
abbrev pub meaning : Result Reply Refused → Answer Replied
meaning r = told replied_as r

abbrev pub apart_in : Result Reply Refused → Bool
apart_in (Ok (Reply.Place r)) = true
apart_in (Ok (Reply.View x)) = true
apart_in (Ok (Reply.Field v)) = nan_apart v
apart_in (Ok (Reply.Found i)) = true
apart_in (Err e) = true

-- a reply that says this, with NaNs, and only NaNs, in the case that is meant for them
pub record Says (r : Result Reply Refused) (a : Answer Replied) : Type 0 where
  pub says : meaning r ≡ a
  pub apart : T (apart_in r)
