-- `mrd_put::put::put_text` meets its contract: the length takes the first four bytes, and the text follows them.
-- Assumes nothing.
use Rattle.mrd_put.specs.PutLaws.{text-put}
use Rattle.mrd_put.proofs.put.put_text.Goals as goal

pub returns : goal.returns
returns c =
    text-put c.args.text.now c.args.out.now
    c.put.new.out c.copy.new.out c.requires.1
    c.put.ensures c.copy.ensures.1
