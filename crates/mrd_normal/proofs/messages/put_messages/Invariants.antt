-- `mrd_normal::messages::put_messages` meets its contract. The loop's invariant: out holds the normal form of the messages that were passed, and
-- then what was there before. The measure is the bytes of the stream left.
-- Assumes nothing.
use Prim.Native.Nat.{◌-◌}
use lib.ListN.{length}
use Rattle.mrd_normal.specs.Putting.{Putting}
use Rattle.mrd_normal.proofs.messages.put_messages.Given as goal

abbrev pub invariant-loop-c : goal.invariant-loop-c
invariant-loop-c l = Putting l.rules l.s l.initial.out l.c l.out

abbrev pub decreases-loop-c : goal.decreases-loop-c
decreases-loop-c l = length l.s - l.c.start
