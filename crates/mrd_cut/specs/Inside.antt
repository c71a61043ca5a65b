-- A place that lies in the stream, at a well-formed message of its kind and numbers.
-- Assumes nothing.
use Rattle.std.specs.Prelude.{ℕ, ◌+◌, ◌≤◌, ◌≡◌, List, length}
use Rattle.mrd_format.specs.Message.{fixed_part, numbers_of}
use Rattle.mrd_format.specs.WellFormed.{WellFormed}
use Rattle.mrd_stream.specs.Places.{Located}
use Rattle.mrd_cut.specs.CutPlaces.{part_at}
use Rattle.mrd_format.specs.declared.rules.Rules.{Rules}

-- the place l lies in s, at a well-formed message of its kind and numbers
pub record Inside (rules : Rules) (s : List ℕ) (l : Located) : Type 0 where
  pub well : WellFormed rules (part_at s l)
  pub kind : well.kind ≡ l.kind
  pub numbers : l.numbers ≡ numbers_of l.kind (fixed_part l.kind (part_at s l))
  pub long : length (part_at s l) ≡ l.size
  pub fits : l.start + l.size ≤ length s
