-- `mrd_index_match::compare::compare` meets its contract. The loop's invariant: what was the same so far, and what is the same from the cursor on,
-- together say whether all is. The measure is the bytes of the stream left.
-- Assumes nothing.
use Rattle.mrd_index_match.specs.Comparing.{start, step-same, step-other}
use Rattle.mrd_index_match.proofs.compare.compare.Goals as goal

pub loop-record-init : goal.loop-record-init
loop-record-init g c = start c.beginning-c.ensures c.begins-same.ensures

pub loop-record-preserved-then-same : goal.loop-record-preserved-then-same
loop-record-preserved-then-same g c =
    step-same c.loop-record.invariant c.in-Message.ensures c.if-same.true c.entry_of.ensures c.holds-same.ensures

pub loop-record-preserved : goal.loop-record-preserved
loop-record-preserved g c = step-other c.loop-record.invariant c.in-Message.ensures c.if-same.false
