-- Contents whose parts are as long as the header says: what the laws of a message that is made of them speak of.
-- Assumes nothing.
use Rattle.std.specs.Prelude.{ℕ, ◌*◌, ◌≤◌, ◌≡◌, false, length}
use mathlib.Core.List.{List, map}
use Rattle.mrd_logic.specs.Every.{Every}
use Rattle.mrd_format.specs.declared.kind.Kind.{Kind}
use Rattle.mrd_format.specs.Kinds.{header_size}
use Rattle.mrd_format.specs.Parts as part
use Rattle.mrd_format.specs.Parts.{Part, same, is_channel, part_in, record_parts, Contents, part_length}
use Rattle.mrd_format.specs.Segments.{Segment, fixed, counted, padded, sized, channels, name_length}
use Rattle.mrd_format.specs.Content.{segments_of, part_size, settled_by, fixed_of}

-- a segment's bytes, of the contents c, are as many as it says; h is the fixed part, which shows a name's length
abbrev pub Holds : List ℕ → Contents → Segment → Type 0
Holds h c (fixed n) = length c.header ≡ n
Holds h c (counted w p) = Unit {0}
Holds h c (padded n) = (name_length h ≡ length c.parts.name) × (length c.parts.name ≤ n)
Holds h c (sized p n) = length (part_in c.parts p) ≡ n
Holds h c (channels k n) = length c.parts.samples ≡ k * n

-- a part that a record has: none of the others
abbrev pub Recorded : Part → Type 0
Recorded p =
    (same p part.id ≡ false) × (same p part.count ≡ false) × (same p part.header ≡ false) × (same p part.filler ≡ false) × (is_channel p ≡ false)

-- contents whose header has its kind's length, whose segments, the true lengths in the header, are as long as they say, and whose other parts are
-- empty
pub record Fitting (k : Kind) (c : Contents) : Type 0 where
  pub header : length c.header ≡ header_size k
  pub holds : Every (Holds (fixed_of k c) (settled_by k (part_length c) c)) (segments_of k (fixed_of k c))
  pub sizes : map (part_size k (fixed_of k c)) record_parts ≡ map (part_length c) record_parts
