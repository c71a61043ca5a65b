-- 'Order of checks': a list of checks in order, each with the number it refuses with. The first that refuses decides.
-- Assumes nothing.
use Rattle.std.specs.Prelude.{ℕ, zero, suc, ◌≡◌, Bool, true, false, List, [], ◌∷◌, ◌++◌, eqb}
use Rattle.mrd_logic.specs.Choice.{pick}
use Rattle.mrd_logic.specs.Every.{Every}

infix 20 ◌when◌
-- a number of refusal, and whether it is given
pub data Check : Type 0 where
  ◌when◌ : ℕ → Bool → Check

-- the number of the first check that refuses, and 0 where none does
abbrev pub first : List Check → ℕ
first [] = 0
first ((n when true) ∷ cs) = n
first ((n when false) ∷ cs) = first cs

-- what is answered where the number of the first check that refuses is 0, else the refusal with that number
abbrev pub unless : {A : Type 0} → ℕ → (ℕ → A) → A → A
unless zero refusal a = a
unless (suc f) refusal a = refusal (suc f)

-- the checks with another number than n
abbrev pub without : ℕ → List Check → List Check
without n [] = []
without n ((f when b) ∷ cs) = pick (eqb f n) (without n cs) ((f when b) ∷ without n cs)

-- a check that does not refuse
abbrev pub Passed : Check → Type 0
Passed (n when b) = b ≡ false

-- f is the number of a check that refuses, and every earlier check passed
pub record FirstFault (f : ℕ) (cs : List Check) : Type 0 where
  pub earlier : List Check
  pub later : List Check
  pub all : cs ≡ earlier ++ ((f when true) ∷ later)
  pub passed : Every Passed earlier
