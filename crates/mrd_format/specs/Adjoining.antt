-- Extents that adjoin, and segments whose parts the normal form keeps: what the laws of a message's parts speak of.
-- Assumes nothing.
use Rattle.std.specs.Prelude.{ℕ, ◌+◌, ◌≤◌, ◌≡◌, Bool, true, false, not, ◌||◌, ◌&&◌, List, [], ◌∷◌, map}
use Rattle.mrd_format.specs.Headers.{Cell}
use Rattle.mrd_format.specs.Lawful.{all_fields, lawful}
use Rattle.mrd_format.specs.Parts.{header, filler, same, Extent}
use Rattle.mrd_format.specs.Segments.{Segment, fixed, counted, padded, sized, channels, name_length, PlacedPart}

-- whether a segment's parts are kept by the normal form, in a message whose header is built of cs
abbrev pub plain : List Cell → Segment → Bool
plain cs (fixed n) = all_fields cs && lawful 0 n cs
plain cs (counted w p) = true
plain cs (padded n) = false
plain cs (sized p n) = not (same p filler || same p header)
plain cs (channels c n) = true

abbrev pub all_plain : List Cell → List Segment → Bool
all_plain cs [] = true
all_plain cs (s ∷ ss) = plain cs s && all_plain cs ss

-- extents that adjoin from a to b
abbrev pub Adjoins : ℕ → ℕ → List Extent → Type 0
Adjoins a b [] = a ≡ b
Adjoins a b (e ∷ es) = (e.offset ≡ a) × Adjoins (a + e.size) b es

-- a name is within the bytes that it is filled up to
abbrev pub Fits : List ℕ → Segment → Type 0
Fits h (fixed n) = Unit {0}
Fits h (counted w p) = Unit {0}
Fits h (padded n) = name_length h ≤ n
Fits h (sized p n) = Unit {0}
Fits h (channels c n) = Unit {0}

abbrev pub places_of : List PlacedPart → List Extent
places_of ps = map (λ (p : PlacedPart). p.place) ps
