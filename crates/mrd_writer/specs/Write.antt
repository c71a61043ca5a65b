-- 'The writer puts one message into the output from a given position on': its answer, and the output as it leaves it.
-- Assumes nothing.
use Rattle.std.specs.Prelude.{ℕ, ◌+◌, ◌≡◌, not, List, [], ◌∷◌, ◌++◌, ltb, length, Option, Some, None, Result}
use Rattle.mrd_numbers.specs.Stored.{stored}
use Rattle.mrd_logic.specs.Answer.{Answer, answered, stream, number}
use Rattle.mrd_logic.specs.Checks.{Check, ◌when◌, first, unless}
use Rattle.mrd_format.specs.declared.rules.Rules.{Rules}
use Rattle.mrd_format.specs.declared.rules.Profile.{Profile}
use Rattle.mrd_format.specs.declared.kind.Kind.{Kind}
use Rattle.mrd_format.specs.declared.refusal.Refusal.{Refusal}
use Rattle.mrd_format.specs.Refusals.{answer_in}
use Rattle.mrd_format.specs.Kinds.{identified}
use Rattle.mrd_format.specs.Parts.{Contents}
use Rattle.mrd_format.specs.Content.{message_of}
use Rattle.mrd_format.specs.Profiles.{texts_in, encoded}
use Rattle.mrd_write_checks.specs.WriteChecks.{lengths_of, given_size, given_checks, judged}

-- what the writer's answer says: the position after the message, or 'the number alone'
abbrev pub write_meaning : Result ℕ Refusal → Answer ℕ
write_meaning r = answer_in (λ p. p) r

-- what is given, judged
abbrev pub judged_contents : Kind → Contents → Answer ℕ
judged_contents k c = judged k c.header c.parts.name (lengths_of c)

-- the size of its message
abbrev pub contents_size : Kind → Contents → ℕ
contents_size k c = given_size k c.header (lengths_of c)

-- its checks, 3 to 10 and 18
abbrev pub contents_checks : Kind → Contents → List Check
contents_checks k c = given_checks k c.header c.parts.name (lengths_of c)

-- 21, 'in the writer after 18', by the caller's profile
abbrev pub text_checks : Profile → Contents → List Check
text_checks f c = (21 when not (encoded f (texts_in c.parts))) ∷ []

-- and the last check, 14, 'output too short, or start position past its end'. As no message is empty, the one test says both
abbrev pub room_checks : ℕ → ℕ → List ℕ → List Check
room_checks at z o = (14 when ltb (length o) (at + z)) ∷ []

unfoldable pub write_checks : Profile → Kind → Contents → ℕ → List ℕ → List Check
write_checks f k c at o = contents_checks k c ++ (text_checks f c ++ room_checks at (contents_size k c) o)

unfoldable pub answer_as : Profile → Option Kind → Contents → ℕ → List ℕ → Answer ℕ
answer_as f None c at o = number 2
answer_as f (Some k) c at o = unless (first (write_checks f k c at o)) number (answered (at + contents_size k c))

-- the answer
unfoldable pub write_answer : Rules → ℕ → Contents → ℕ → List ℕ → Answer ℕ
write_answer rules id c at o = answer_as rules.profile (identified rules id) c at o

-- 'the bytes before and after the message keep their content', and 'no refusal writes any byte'
abbrev pub stored_by : Answer ℕ → List ℕ → ℕ → List ℕ → List ℕ
stored_by (answered p) m at o = stored at m o
stored_by (stream f r b) m at o = o
stored_by (number n) m at o = o

unfoldable pub output_as : Profile → Option Kind → Contents → ℕ → List ℕ → List ℕ
output_as f None c at o = o
output_as f (Some k) c at o = stored_by (answer_as f (Some k) c at o) (message_of k c) at o

-- the output as it is left
unfoldable pub write_output : Rules → ℕ → Contents → ℕ → List ℕ → List ℕ
write_output rules id c at o = output_as rules.profile (identified rules id) c at o

-- a call by these rules that answers r and leaves out, where the id, c, the position and the output o were given
abbrev pub Writes : Rules → Result ℕ Refusal → List ℕ → ℕ → Contents → ℕ → List ℕ → Type 0
Writes rules r out id c at o = (write_meaning r ≡ write_answer rules id c at o) × (out ≡ write_output rules id c at o)

-- the same for a kind that is known
abbrev pub Stores : Profile → Result ℕ Refusal → List ℕ → Kind → Contents → ℕ → List ℕ → Type 0
Stores f r out k c at o = (write_meaning r ≡ answer_as f (Some k) c at o) × (out ≡ output_as f (Some k) c at o)
