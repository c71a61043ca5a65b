-- `mrd_stream::reader::ended` meets its contract: the phase says whether a close was met.
-- Assumes nothing.
use Rattle.mrd_stream.specs.Walk.{ended}
use Rattle.mrd_stream.proofs.reader.ended.Goals as goal

pub returns-then-is_closed : goal.returns-then-is_closed
unfolding ended
returns-then-is_closed c = simp (← c.is_closed.ensures, c.if-is_closed.true)

pub returns : goal.returns
unfolding ended
returns c = simp (← c.is_closed.ensures, c.if-is_closed.false) c.refused.ensures
