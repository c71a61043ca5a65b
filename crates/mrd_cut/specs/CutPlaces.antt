-- The pieces of a stream that the answered places name, and places that adjoin.
-- Assumes nothing.
use Rattle.std.specs.Prelude.{ℕ, ◌+◌, ◌≡◌, refl, List, [], ◌∷◌, map, length, take, drop}
use Rattle.mrd_format.specs.declared.kind.Kind.{Kind}
use Rattle.mrd_format.specs.declared.rules.Rules.{Rules}
use Rattle.mrd_format.specs.declared.kind.Kind.TheVariants.{Close, Text}
use Rattle.mrd_format.specs.WellFormed.{WellFormed}
use Rattle.mrd_stream.specs.Walk.{trace}
use Rattle.mrd_stream.specs.Places.{Located, places}
use Rattle.mrd_logic.specs.Every.{Every}
use Rattle.mrd_logic.specs.Joined.{joined}
use Rattle.mrd_cut.specs.Cut.{Cut}

-- the bytes that a place names
abbrev pub part_at : List ℕ → Located → List ℕ
part_at s l = take l.size (drop l.start s)

-- the pieces of s that the answered places name
abbrev pub placed_pieces : Rules → List ℕ → List (List ℕ)
placed_pieces rules s = map (part_at s) (places (trace rules s))

-- 'adjoining' places from byte b on up to byte e: the first starts at b, each other where the one before it ends, and the last ends at e
abbrev pub Adjoin : ℕ → List Located → ℕ → Type 0
Adjoin b [] e = b ≡ e
Adjoin b (l ∷ ls) e = (l.start ≡ b) × Adjoin (b + l.size) ls e

-- two empty texts and a close adjoin so
abbrev spanning : ℕ → ℕ → ℕ → Kind → Located
spanning n start size k = record { number = n; start = start; size = size; kind = k; numbers = [] }

pub adjoining : Adjoin 0 (spanning 0 0 6 Text ∷ spanning 1 6 6 Text ∷ spanning 2 12 2 Close ∷ []) 14
adjoining = (refl, (refl, (refl, refl)))

-- these pieces, n of them, are a cut of s, and the only one; their places adjoin, from the first byte of s to its end
pub record AnsweredCut (rules : Rules) (s : List ℕ) (n : ℕ) : Type 0 where
  pub well : Every (WellFormed rules) (placed_pieces rules s)
  pub whole : joined (placed_pieces rules s) ≡ s
  pub count : length (placed_pieces rules s) ≡ n
  pub only : (other : Cut rules s) → other.pieces ≡ placed_pieces rules s
  pub adjoin : Adjoin 0 (places (trace rules s)) (length s)
