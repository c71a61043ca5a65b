-- What the reader's answers say: the values, and the number of a refusal.
-- Assumes nothing.
use Rattle.mrd_format.specs.Shapes.{kind_of, shape_numbers}
use Rattle.std.specs.Prelude.{ℕ, ◌≡◌, Result, Ok, Err, IsErrAnd, IfOk, IfErr}
use Rattle.std.proofs.Common.{sym, ap, ◌∙◌}
use Rattle.mrd_format.specs.Refusals.{number_of}
use Rattle.mrd_stream.specs.declared.refused.StreamRefusal.{StreamRefusal}
use Rattle.mrd_stream.specs.declared.refused.Refused.{Refused}
use Rattle.mrd_stream.specs.declared.refused.Refused.TheVariants.{Stream}
use Rattle.mrd_stream.specs.Refused.{told, ByStream, told-stream}
use Rattle.mrd_stream.specs.declared.answer.Step.{Step}
use Rattle.mrd_stream.specs.declared.answer.PlacedRecord.{PlacedRecord}
use Rattle.mrd_logic.specs.Answer.{Verdict, accepted, refused, Answer, unless_refused}
use Rattle.mrd_stream.specs.Places.{Located, Stepped, yields, over}

-- the stream's answer
abbrev pub checked_meaning : Result ℕ StreamRefusal → Verdict
checked_meaning (Ok n) = accepted n
checked_meaning (Err r) = refused (number_of r.why) r.record r.byte

-- a record's place and kind
abbrev pub record_meaning : PlacedRecord → Located
record_meaning r =
    record {
      number = r.place.number;
      start = r.place.start;
      size = r.place.size;
      kind = kind_of r.shape;
      numbers = shape_numbers r.shape;
    }

-- one step of a walk
abbrev pub step_meaning : Step → Stepped
step_meaning (Step.Message r c) = yields (record_meaning r) c
step_meaning (Step.End v) = over (checked_meaning v)

-- the answer about one record
abbrev pub placed_meaning : Result PlacedRecord Refused → Answer Located
placed_meaning q = told record_meaning q

-- at the end of a walk the stream's answer v comes before what was found, q: a refusal is passed on, and else q is answered
module _ {A B : Type 0} (m : A → B) (q : Result A Refused) {v : Result ℕ StreamRefusal} {wanted : Answer B} where
  pub refused-first : {e : StreamRefusal} (r : Result A Refused) → v ≡ Err e → IsErrAnd r (ByStream e) →
      unless_refused (checked_meaning v) (told m q) ≡ wanted → told m r ≡ wanted
  refused-first {e} r is passed o =
      told-stream m r e passed ∙ ap (λ (u : Result ℕ StreamRefusal). unless_refused (checked_meaning u) (told m q)) (sym is) ∙ o

  pub accepted-first : {n : ℕ} → v ≡ Ok n → unless_refused (checked_meaning v) (told m q) ≡ wanted → told m q ≡ wanted
  accepted-first is o = ap (λ (u : Result ℕ StreamRefusal). unless_refused (checked_meaning u) (told m q)) (sym is) ∙ o

-- what is said of r, which a walk concludes: where the stream's answer v is a refusal, that refusal, and else what is said of q, which was found
pub concluded-told : {A B : Type 0} (m : A → B) (q r : Result A Refused) (v : Result ℕ StreamRefusal) → IfOk v (λ _. r ≡ q) → IfErr v (λ e. r ≡ Err (Stream e)) →
    told m r ≡ unless_refused (checked_meaning v) (told m q)
concluded-told m q r (Ok n) same passed = ap (told m) same
concluded-told m q r (Err e) same passed = ap (told m) passed
