-- `mrd_part_at::parts::part_in` meets its contract: the part of the record's message, further on by where the message starts.
-- Assumes nothing.
use native.Mathlib.Omega.{arith}
use Rattle.mrd_stream.specs.ReaderMeaning.{record_meaning}
use Rattle.mrd_part_at.specs.PartAtLaws.{part-asked, part-starts}
use Rattle.mrd_part_at.proofs.parts.part_in.Goals as goal

pub part_holding-held-requires : goal.part_holding-held-requires
part_holding-held-requires c =
    let a = c.args in
    rw (c.fixed_part.ensures.kind, c.fixed_part.ensures.bytes) (part-asked a.s.now a.byte (record_meaning a.here) c.requires)

pub overflow_add-result : goal.overflow_add-result
overflow_add-result c =
    let a = c.args in
    let told = rw (c.fixed_part.ensures.kind, c.fixed_part.ensures.bytes) at c.part_holding-held.ensures in
    omega (arith, part-starts a.s.now a.byte (record_meaning a.here) c.requires told, c.ranges)
