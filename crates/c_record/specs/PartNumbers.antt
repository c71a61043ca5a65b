-- The parts of a record by number.
-- Assumes nothing.
use Rattle.std.specs.Prelude.{ℕ, ◌-◌, ◌^◌, eqb}
use Rattle.mrd_logic.specs.Choice.{pick}
use Rattle.mrd_parts.specs.declared.parts.Part.{Part}
use Rattle.mrd_parts.specs.declared.parts.Part.TheVariants.{Name, Text, Attributes, Trajectory, Channel, Pixels, Waveform}

-- a channel whose number is above any count of channels
abbrev pub no_part : Part
no_part = Channel (2 ^ 64 - 1)

-- the parts, from 1 on, one of them for the channel c; any other number is a part that no record has
unfoldable pub part_numbered : ℕ → ℕ → Part
part_numbered n c =
    pick (eqb n 1) Name
    (pick (eqb n 2) Text
    (pick (eqb n 3) Attributes
    (pick (eqb n 4) Trajectory
    (pick (eqb n 5) (Channel c)
    (pick (eqb n 6) Pixels
    (pick (eqb n 7) Waveform no_part))))))
