-- `mrd_put::put::put_acquisition` meets its contract: the header is copied to the front, and the two parts follow it.
-- Assumes nothing.
use mathlib.Core.List.{◌++◌}
use lib.ListN.{length-append}
use Rattle.mrd_put.specs.PutLaws.{headed_put}
use Rattle.mrd_put.proofs.put.put_acquisition.Goals as goal

pub returns : goal.returns
returns c =
    headed_put c.args.header.now (c.args.trajectory.now ++ c.args.samples.now)
    c.args.out.now c.copy.new.out
    c.put_joined.new.out (simp length-append c.requires)
    c.copy.ensures.1 c.put_joined.ensures
