-- Which of some things holds a byte, by where each of them lies.
-- Assumes nothing.
use Rattle.std.specs.Prelude.{ℕ, zero, suc, ◌+◌, ◌≡◌, Bool, true, ◌&&◌, List, [], ◌∷◌, leb, ltb}
use Rattle.mrd_logic.specs.Answer.{Answer, answered, number}
use Rattle.mrd_logic.specs.Choice.{pick}
use Rattle.mrd_logic.specs.Lists.{Nth}
use Rattle.mrd_format.specs.Parts.{Extent, extent}

-- whether byte i lies in a place. An empty place holds no byte
abbrev pub holds : Extent → ℕ → Bool
holds e i = leb e.offset i && ltb i (e.offset + e.size)

-- the first of some things, each of which lies where f says, that holds byte i; 16 where none does
abbrev pub holding : {A : Type 0} → (A → Extent) → List A → ℕ → Answer A
holding f [] i = number 16
holding f (x ∷ xs) i = pick (holds (f x) i) (answered x) (holding f xs i)

-- byte i lies in x, which is number n of them, and in no other: 'each byte belongs to exactly one'
pub record OnlyIn {A : Type 0} (f : A → Extent) (xs : List A) (i n : ℕ) (x : A) : Type 0 where
  pub there : Nth xs n x
  pub inside : holds (f x) i ≡ true
  pub only : (m : ℕ) (y : A) → Nth xs m y → holds (f y) i ≡ true → m ≡ n

-- n places of z bytes each, one after the other from `at` on
abbrev pub evenly : ℕ → ℕ → ℕ → List Extent
evenly zero at z = []
evenly (suc n) at z = extent at z ∷ evenly n (at + z) z

-- what the laws of places say of some things, each of which lies where f says
module _ {A : Type 0} (f : A → Extent) where
  -- byte i is found in one of them, and lies in no other
  abbrev pub Once : List A → ℕ → Type 0
  Once xs i = (n : ℕ) × ((x : A) × ((holding f xs i ≡ answered x) × OnlyIn f xs i n x))

  -- x is one of them and holds byte i
  abbrev pub Found : List A → ℕ → A → Type 0
  Found xs i x = (n : ℕ) × (Nth xs n x × (holds (f x) i ≡ true))
