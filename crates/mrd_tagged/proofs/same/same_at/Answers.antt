-- `mrd_tagged::same_at` meets its contract: bytes that make the number are its bytes.
-- Assumes nothing.
use Rattle.std.proofs.Common.{sym}
use Rattle.mrd_tagged.specs.TaggedLaws.{number_same}
use Rattle.mrd_tagged.proofs.same.same_at.Goals as goal

pub returns : goal.returns
returns g c =
    let n = g.N.Little in
    rw (c.widen.ensures.value, c.widen-2.ensures.value, c.read.ensures)
    (sym (number_same n.width (n.value c.args.v) c.args.s.now c.args.at c.type_inv.s c.requires c.widen-2.ensures.fits))
