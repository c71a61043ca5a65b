-- A part that is found at its place, and a name that no part has: what the laws of the search for a part speak of.
-- Assumes nothing.
use Prim.Native.Nat.{ℕ}
use Rattle.std.specs.Prelude.{◌≡◌, false, List}
use Rattle.mrd_logic.specs.Every.{Every}
use Rattle.mrd_format.specs.declared.kind.Kind.{Kind}
use Rattle.mrd_format.specs.Parts.{Part, same, lies}
use Rattle.mrd_format.specs.Segments.{PlacedPart}
use Rattle.mrd_format.specs.Content.{extent_of}

-- a part is found at its place
abbrev pub FoundAt : Kind → List ℕ → PlacedPart → Type 0
FoundAt k h q = extent_of q.part k h ≡ lies q.place

-- a name that no part of a list has
abbrev pub NoneIs : Part → List PlacedPart → Type 0
NoneIs p qs = Every (λ (q : PlacedPart). same p q.part ≡ false) qs
