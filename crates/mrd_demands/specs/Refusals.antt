-- A refusal leaves every output as it was.
-- Assumes nothing.
use Rattle.std.specs.Prelude.{ℕ, ◌≡◌, refl, List, length, Option, Some, None}
use Rattle.mrd_logic.specs.Answer.{Answer, answered, stream, number, and_then}
use Rattle.mrd_format.specs.declared.kind.Kind.{Kind}
use Rattle.mrd_format.specs.Kinds.{identified}
use Rattle.mrd_format.specs.Parts.{Contents}
use Rattle.mrd_format.specs.Content.{message_of}
use Rattle.mrd_stream.specs.Output.{output_by}
use Rattle.mrd_salvage.specs.declared.report.Report.{Report}
use Rattle.mrd_salvage.specs.Salvage.{salvaged, salvage_answer, salvage_output}
use Rattle.mrd_writer.specs.Write.{answer_as, stored_by, output_as, write_answer, write_output}
use Rattle.mrd_format.specs.declared.rules.Rules.{Rules}

-- a refusal: the stream's, or a number alone
abbrev pub Refusal : {A : Type 0} → Answer A → Type 0
Refusal (answered n) = ⊥
Refusal (stream f r b) = Unit {0}
Refusal (number n) = Unit {0}

-- of a tool that writes w to the front of the output o
pub output-kept : (a : Answer ℕ) → Refusal a → (w o : List ℕ) → output_by a w o ≡ o
output-kept (answered n) r w o = absurd r
output-kept (stream f n b) r w o = refl
output-kept (number n) r w o = refl

message-kept : (a : Answer ℕ) → Refusal a → (m : List ℕ) (at : ℕ) (o : List ℕ) → stored_by a m at o ≡ o
message-kept (answered n) r m at o = absurd r
message-kept (stream f n b) r m at o = refl
message-kept (number n) r m at o = refl

-- of the writer
pub written-kept : (rules : Rules) (id : ℕ) (c : Contents) (at : ℕ) (o : List ℕ) → Refusal (write_answer rules id c at o) → write_output rules id c at o ≡ o
unfolding write_answer write_output output_as
written-kept rules id c at o r = by (identified rules id) r
  where
    by : (i : Option Kind) → Refusal (answer_as rules.profile i c at o) → output_as rules.profile i c at o ≡ o
    by None r = refl
    by (Some k) r = message-kept (answer_as rules.profile (Some k) c at o) r (message_of k c) at o

-- of the salvage
pub saved-kept : (rules : Rules) (s o : List ℕ) → Refusal (salvage_answer rules s (length o)) → salvage_output rules s o ≡ o
unfolding salvage_output
saved-kept rules s o r = by (salvage_answer rules s (length o)) r
  where
    by : (a : Answer Report) → Refusal a → output_by (and_then a (λ r. answered r.length)) (salvaged rules s) o ≡ o
    by (answered x) r = absurd r
    by (stream f n b) r = refl
    by (number n) r = refl
