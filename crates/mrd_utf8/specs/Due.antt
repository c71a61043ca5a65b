-- What a reader's state stands for: the list of the ranges still due.
-- Assumes nothing.
use Rattle.std.specs.Prelude.{ℕ, zero, suc, List, [], ◌∷◌, replicate}
use Rattle.mrd_utf8.specs.declared.State.{State}
use Rattle.mrd_utf8.specs.Utf8.{Range, ◌to◌, tail}

-- so many octets are due, the first from lo to hi and the others tails
abbrev pub awaited : ℕ → ℕ → ℕ → List Range
awaited zero lo hi = []
awaited (suc n) lo hi = lo to hi ∷ replicate n tail

-- what is due in a state
abbrev pub due_of : State → List Range
due_of s = awaited s.due s.lo s.hi
