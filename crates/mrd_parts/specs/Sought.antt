-- The parts that a view can show, as parts of a message, and what is asked and answered about where one lies.
-- Assumes nothing.
use Rattle.std.specs.Prelude.{ℕ, ◌≤◌, ◌≡◌, List, length, Option, Some, None}
use Rattle.mrd_format.specs.declared.kind.Kind.{Kind}
use Rattle.mrd_format.specs.Kinds.{fixed_size}
use Rattle.mrd_format.specs.Message.{limit, size_of}
use Rattle.mrd_format.specs.Parts as parts
use Rattle.mrd_format.specs.Parts.{extent, Reach, lies, lacks}
use Rattle.mrd_parts.specs.declared.parts.Part.{Part}
use Rattle.mrd_parts.specs.declared.parts.Part.TheVariants.{Name, Text, Attributes, Trajectory, Channel, Pixels, Waveform}
use Rattle.mrd_parts.specs.declared.parts.Extent as declared

-- 'Views': 'text, name, attributes, trajectory, one channel's samples, pixels, waveform data'
abbrev pub part_meaning : Part → parts.Part
part_meaning Name = parts.name
part_meaning Text = parts.text
part_meaning Attributes = parts.attributes
part_meaning Trajectory = parts.trajectory
part_meaning (Channel c) = parts.channel c
part_meaning Pixels = parts.pixels
part_meaning Waveform = parts.waveform

-- what is answered
abbrev pub sought_meaning : Option declared.Extent → Reach
sought_meaning (Some e) = lies (extent e.offset e.size)
sought_meaning None = lacks

-- what is asked: h is the fixed part of a message of kind k and of z bytes, within the limit
pub record Sized (k : Kind) (h : List ℕ) (z : ℕ) : Type 0 where
  pub long : length h ≡ fixed_size k
  pub size : z ≡ size_of k h
  pub small : z ≤ limit
