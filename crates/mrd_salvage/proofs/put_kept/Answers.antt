-- `mrd_salvage::put_kept` meets its contract: the bytes that are kept take the front, and the close's id follows them.
-- Assumes nothing.
use Rattle.mrd_salvage.proofs.KeptLaws.{put-closed}
use Rattle.mrd_salvage.proofs.put_kept.Goals as goal

pub returns-then-add : goal.returns-then-add
returns-then-add c =
    rw c.if-add.true
    (put-closed c.args.kept.now c.args.out.now _ _ (rw c.if-add.true at c.requires)
    c.copy.ensures.1 c.put.ensures)
