-- `mrd_put::put::put_image_header` meets its contract: the fields of the header are copied to the front, and the attributes' length follows them twice.
-- Assumes nothing.
use native.Mathlib.Omega.{arith}
use lib.ListN.{take}
use lib.Seq.{length-take-le}
use Rattle.mrd_put.specs.PutLaws.{header-put}
use Rattle.mrd_put.proofs.put.put_image_header.Goals as goal

pub returns : goal.returns
returns c =
    let header = c.args.header.now in
    header-put (take 194 header) c.args.count (length-take-le 194 header (omega (arith, c.requires.0))) c.args.out.now
    c.copy.new.out c.put.new.out c.put-2.new.out c.requires.2
    c.copy.ensures.1 c.put.ensures c.put-2.ensures
