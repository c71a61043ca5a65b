-- `mrd_utf8::State::read_text` meets its contract: nothing is due after whole characters. Assumes nothing.
use Rattle.mrd_utf8.specs.Whole.{whole_read}
use Rattle.mrd_utf8.proofs.State.read_text.Goals as goal

pub returns : goal.returns
returns c = whole_read c.whole-n.ensures c.start.ensures c.read_each.ensures
