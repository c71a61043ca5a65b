-- What a refused question says: the stream's refusal, with number, record and byte, or a number alone.
-- Assumes nothing.
use Rattle.std.specs.Prelude.{ℕ, ◌≡◌, Result, Ok, Err, IsErrAnd}
use Rattle.std.proofs.Common.{ap}
use Rattle.mrd_logic.specs.Answer.{Answer, answered, stream, number}
use Rattle.mrd_format.specs.declared.refusal.Refusal.{Refusal}
use Rattle.mrd_format.specs.Refusals.{number_of}
use Rattle.mrd_stream.specs.declared.refused.StreamRefusal.{StreamRefusal}
use Rattle.mrd_stream.specs.declared.refused.Refused.{Refused}
use Rattle.mrd_stream.specs.declared.refused.Refused.TheVariants.{Stream, Alone}

abbrev pub refused_as : {A : Type 0} → Refused → Answer A
refused_as (Stream r) = stream (number_of r.why) r.record r.byte
refused_as (Alone w) = number (number_of w)

-- what is said of what a question is answered, where m says what its value means
abbrev pub told : {A B : Type 0} → (A → B) → Result A Refused → Answer B
told m (Ok a) = answered (m a)
told m (Err e) = refused_as e

-- the number, the record and the byte of a refused question; the last two are 0 beside a number alone
abbrev pub number_told : Refused → ℕ
number_told (Stream r) = number_of r.why
number_told (Alone w) = number_of w

abbrev pub record_told : Refused → ℕ
record_told (Stream r) = r.record
record_told (Alone w) = 0

abbrev pub byte_told : Refused → ℕ
byte_told (Stream r) = r.byte
byte_told (Alone w) = 0

-- a question is refused as the stream is, and as it is itself
abbrev pub ByStream : StreamRefusal → Refused → Type 0
ByStream r e = e ≡ Stream r

abbrev pub ByRefusal : Refusal → Refused → Type 0
ByRefusal w e = e ≡ Alone w

-- a stream's refusal that a question passes on
pub told-stream : {A B : Type 0} (m : A → B) (q : Result A Refused) (r : StreamRefusal) → IsErrAnd q (ByStream r) → told m q ≡ stream (number_of r.why) r.record r.byte
told-stream m (Ok a) r p = absurd p
told-stream m (Err e) r p = ap refused_as p

-- and one of its own
pub told-alone : {A B : Type 0} (m : A → B) (q : Result A Refused) (w : Refusal) → IsErrAnd q (ByRefusal w) → told m q ≡ number (number_of w)
told-alone m (Ok a) w p = absurd p
told-alone m (Err e) w p = ap refused_as p

-- and a question's refusal that another question passes on
pub told_again : {A B : Type 0} (m : A → B) (q : Result A Refused) (e : Refused) → IsErrAnd q (λ x. x ≡ e) → told m q ≡ refused_as e
told_again m (Ok a) e p = absurd p
told_again m (Err x) e p = ap refused_as p
