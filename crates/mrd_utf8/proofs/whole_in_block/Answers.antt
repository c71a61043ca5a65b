-- `mrd_utf8::whole_in_block` meets its contract: ASCII is whole characters, each of one octet. Assumes nothing.
use Rattle.mrd_utf8.specs.Whole.{whole_ascii}
use Rattle.mrd_utf8.proofs.whole_in_block.Goals as goal

pub returns-then-ascii : goal.returns-then-ascii
returns-then-ascii c = whole_ascii c.highest-ascii.result c.args.s.now c.highest-ascii.ensures c.if-ascii.true
