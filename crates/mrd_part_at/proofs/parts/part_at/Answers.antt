-- `mrd_part_at::part_at` meets its contract: the record that holds the byte, and then the part of it that does.
-- Assumes nothing.
use Rattle.mrd_part_at.specs.PartAtLaws.{holder_holds}
use Rattle.mrd_part_at.proofs.parts.part_at.Goals as goal

pub part_in-requires : goal.part_in-requires
part_in-requires c =
    let a = c.args in
    rw (← c.in_ok-here.ensures) at (holder_holds a.rules a.s.now a.byte)
