-- `mrd_part_at::holder::record_holding` meets its contract. The loop's invariant: the walk has not passed the byte, and the answer from the cursor on
-- is the answer wanted. The measure is the bytes left.
-- Assumes nothing.
use Prim.Native.Nat.{◌-◌}
use lib.ListN.{length}
use Rattle.mrd_part_at.specs.PartAtLaws.{Seeking}
use Rattle.mrd_part_at.proofs.holder.record_holding.Given as goal

abbrev pub invariant-loop-here : goal.invariant-loop-here
invariant-loop-here l = Seeking l.rules l.byte l.c l.s

abbrev pub decreases-loop-here : goal.decreases-loop-here
decreases-loop-here l = length l.s - l.c.start
