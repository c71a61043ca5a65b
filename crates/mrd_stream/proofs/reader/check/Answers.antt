-- `mrd_stream::check` meets its contract: the stream's answer is that of the walk from the beginning.
-- Assumes nothing.
use Rattle.mrd_stream.specs.Walk.{trace, answer}
use Rattle.mrd_stream.proofs.reader.check.Goals as goal

pub returns : goal.returns
unfolding answer trace
returns c = rw c.beginning.ensures at c.check_from.ensures
