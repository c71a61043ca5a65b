-- `mrd_put::put::put_name` meets its contract: the name is copied to the front, and the zeros follow it.
-- Assumes nothing.
use Rattle.mrd_put.specs.PutLaws.{name-put}
use Rattle.mrd_put.proofs.put.put_name.Goals as goal

pub returns : goal.returns
returns c =
    name-put c.args.name.now c.args.out.now
    c.copy.new.out c.put_zeros.new.out c.requires
    c.copy.ensures.1 c.put_zeros.ensures
