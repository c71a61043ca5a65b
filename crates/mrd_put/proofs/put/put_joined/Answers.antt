-- `mrd_put::put::put_joined` meets its contract: the first part is copied to the front, and the second follows it.
-- Assumes nothing.
use Rattle.mrd_put.specs.PutLaws.{joined-put}
use Rattle.mrd_put.proofs.put.put_joined.Goals as goal

pub returns : goal.returns
returns c =
    joined-put c.args.first.now c.args.second.now c.args.out.now
    c.copy.new.out c.copy-2.new.out c.requires
    c.copy.ensures.1 c.copy-2.ensures.1
