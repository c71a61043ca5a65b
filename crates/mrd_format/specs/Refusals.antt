-- The errors and their numbers, and what an answer says that is an error or has one.
-- Assumes nothing.
use Rattle.std.specs.Prelude.{ℕ, ◌≡◌, Result, Ok, Err, IsErrAnd}
use Rattle.std.proofs.Common.{arith, ap}
use Rattle.mrd_logic.specs.Answer.{Answer, answered, number}
use Rattle.mrd_format.specs.declared.refusal.Refusal.{Refusal}
use Rattle.mrd_format.specs.declared.refusal.Refusal.TheVariants.{IdCut, UnknownId, FixedPartCut, Version, Name, Channels, Discard, DataType, AttributeLength, TooLarge, MessageCut, Order, NoClose, OutputShort, IndexDiffers, NoRecord, NoPart, BodyLength, TooMany, NoField, TextNotUtf8}

-- 'refusal numbers, 1 to 21'
abbrev pub number_of : Refusal → ℕ
number_of IdCut = 1
number_of UnknownId = 2
number_of FixedPartCut = 3
number_of Version = 4
number_of Name = 5
number_of Channels = 6
number_of Discard = 7
number_of DataType = 8
number_of AttributeLength = 9
number_of TooLarge = 10
number_of MessageCut = 11
number_of Order = 12
number_of NoClose = 13
number_of OutputShort = 14
number_of IndexDiffers = 15
number_of NoRecord = 16
number_of NoPart = 17
number_of BodyLength = 18
number_of TooMany = 19
number_of NoField = 20
number_of TextNotUtf8 = 21

-- the number of what was checked: 0 where nothing was refused
abbrev pub number_in : {A : Type 0} → Result A Refusal → ℕ
number_in (Ok a) = 0
number_in (Err r) = number_of r

-- an answer of which m says what its value means, or a refusal with 'the number alone'
abbrev pub answer_in : {A B : Type 0} → (A → B) → Result A Refusal → Answer B
answer_in m (Ok a) = answered (m a)
answer_in m (Err r) = number (number_of r)

-- no refusal has the number 0
pub number-not-zero : (r : Refusal) → number_of r ≡ 0 → ⊥
number-not-zero IdCut e = omega arith
number-not-zero UnknownId e = omega arith
number-not-zero FixedPartCut e = omega arith
number-not-zero Version e = omega arith
number-not-zero Name e = omega arith
number-not-zero Channels e = omega arith
number-not-zero Discard e = omega arith
number-not-zero DataType e = omega arith
number-not-zero AttributeLength e = omega arith
number-not-zero TooLarge e = omega arith
number-not-zero MessageCut e = omega arith
number-not-zero Order e = omega arith
number-not-zero NoClose e = omega arith
number-not-zero OutputShort e = omega arith
number-not-zero IndexDiffers e = omega arith
number-not-zero NoRecord e = omega arith
number-not-zero NoPart e = omega arith
number-not-zero BodyLength e = omega arith
number-not-zero TooMany e = omega arith
number-not-zero NoField e = omega arith
number-not-zero TextNotUtf8 e = omega arith

-- a refusal that is passed on keeps its number
pub number-passed_on : {A : Type 0} (r : Result A Refusal) (e : Refusal) → IsErrAnd r (λ x. x ≡ e) → number_in r ≡ number_of e
number-passed_on (Ok a) e p = absurd p
number-passed_on (Err x) e p = ap number_of p
