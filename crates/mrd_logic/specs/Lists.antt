-- What stands at a place of a list; and lists compared: whether one stands at the front of another, or is the whole of it.
-- Assumes nothing.
use Rattle.std.specs.Prelude.{ℕ, zero, suc, ◌≡◌, Bool, true, false, ◌&&◌, List, [], ◌∷◌, eqb}

-- element n of a list is x
abbrev pub Nth : {A : Type 0} → List A → ℕ → A → Type 0
Nth [] n x = ⊥
Nth (y ∷ ys) zero x = y ≡ x
Nth (y ∷ ys) (suc n) x = Nth ys n x

-- the list m stands at the front of t
abbrev pub begins : List ℕ → List ℕ → Bool
begins [] t = true
begins (x ∷ m) [] = false
begins (x ∷ m) (y ∷ t) = eqb y x && begins m t

-- t is m, no element short and none over
abbrev pub equal : List ℕ → List ℕ → Bool
equal [] [] = true
equal (y ∷ t) [] = false
equal [] (x ∷ m) = false
equal (y ∷ t) (x ∷ m) = eqb y x && equal t m
