-- Messages torn at a byte.
-- Assumes nothing.
use Rattle.std.specs.Prelude.{ℕ, ◌<◌, ◌≡◌, length, take}
use mathlib.Core.List.{List, ◌∷◌, ◌++◌}
use Rattle.mrd_logic.specs.Joined.{joined}

-- byte b of joined messages lies in one of them: those before it, the part of it before that byte, and what follows of it
pub record TornAt (ms : List (List ℕ)) (b : ℕ) : Type 0 where
  pub front : List (List ℕ)
  pub message : List ℕ
  pub back : List (List ℕ)
  pub part : List ℕ
  pub lost : List ℕ
  pub cut : ms ≡ front ++ (message ∷ back)
  pub torn : take b (joined ms) ≡ joined front ++ part
  pub halves : part ++ lost ≡ message
  pub some : 0 < length lost
