-- What checks 4 to 10 leave of a message: its size, or the first of them that refuses. Each function of the judge answers one of these.
-- Assumes nothing.
use Rattle.std.specs.Prelude.{ℕ, ◌+◌, List, [], ◌∷◌, ◌++◌, ltb}
use Rattle.mrd_logic.specs.Answer.{Answer, answered, number}
use Rattle.mrd_logic.specs.Checks.{Check, ◌when◌, first, unless}
use Rattle.mrd_format.specs.declared.kind.Kind.{Kind}
use Rattle.mrd_format.specs.declared.kind.Kind.TheVariants.{ConfigurationName, Text, Image}
use Rattle.mrd_format.specs.Kinds.{fixed_size}
use Rattle.mrd_format.specs.Image.{pixels_size}
use Rattle.mrd_format.specs.Message.{limit}
use Rattle.mrd_write_checks.specs.declared.lengths.Lengths.{Lengths}
use Rattle.mrd_write_checks.specs.WriteChecks.{name_unfit, given_size, sized_checks}

-- of what is given, of a given name, of a text of z bytes, and of a message of z bytes with the own checks cs
unfoldable pub sized_answer : Kind → (h name : List ℕ) → Lengths → Answer ℕ
sized_answer k h name n = unless (first (sized_checks k h name n)) number (answered (given_size k h n))

unfoldable pub name_sized : List ℕ → Answer ℕ
name_sized name = unless (first ((5 when name_unfit name) ∷ [])) number (answered (2 + fixed_size ConfigurationName))

unfoldable pub text_sized : ℕ → Answer ℕ
text_sized z = unless (first ((10 when ltb limit (2 + fixed_size Text + z)) ∷ [])) number (answered (2 + fixed_size Text + z))

unfoldable pub sized_by : List Check → ℕ → Answer ℕ
sized_by cs z = unless (first (cs ++ ((10 when ltb limit z) ∷ []))) number (answered z)

-- the size of an image with the header h and a bytes of attributes
abbrev pub image_size : List ℕ → ℕ → ℕ
image_size h a = 2 + fixed_size Image + (a + pixels_size h)
