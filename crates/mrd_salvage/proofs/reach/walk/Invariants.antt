-- `mrd_salvage::reach::walk` meets its contract. The loop's invariant: what is reached from the cursor on is what the stream reaches. The measure is
-- the bytes left.
-- Assumes nothing.
use Prim.Native.Nat.{◌-◌}
use lib.ListN.{length}
use Rattle.mrd_salvage.specs.ReachLaws.{Reaching}
use Rattle.mrd_salvage.proofs.reach.walk.Given as goal

abbrev pub invariant-loop-c : goal.invariant-loop-c
invariant-loop-c l = Reaching l.rules l.c l.last l.s

abbrev pub decreases-loop-c : goal.decreases-loop-c
decreases-loop-c l = length l.s - l.c.start
