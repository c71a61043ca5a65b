-- `mrd_put::put::put_image` meets its contract: the fixed part is put at the front, and the two parts follow it.
-- Assumes nothing.
use native.Mathlib.Omega.{arith}
use mathlib.Core.List.{◌++◌}
use lib.ListN.{length, take, length-append}
use lib.Seq.{length-take-le}
use Rattle.mrd_put.specs.PutLaws.{image-put}
use Rattle.mrd_put.proofs.put.put_image.Goals as goal

pub returns : goal.returns
returns c =
    let header = c.args.header.now in
    image-put (take 194 header) (length c.args.attributes.now) (length-take-le 194 header (omega (arith, c.requires.0)))
    (c.args.attributes.now ++ c.args.pixels.now) c.args.out.now
    c.put_image_header.new.out c.put_joined.new.out (simp length-append c.requires.2)
    c.put_image_header.ensures c.put_joined.ensures
