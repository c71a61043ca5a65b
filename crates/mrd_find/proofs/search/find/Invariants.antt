-- `mrd_find::find` meets its contract. The outer loop's invariant: the answer from the cursor on is the stream's. The inner loop's: the
-- counters compared so far are the same, so that the rest of them decides. The measure is the bytes left.
-- Assumes nothing.
use Prim.Native.Nat.{◌-◌}
use lib.ListN.{length}
use Rattle.mrd_format.specs.Acquisition.{counters_of}
use Rattle.mrd_find.specs.Alike.{Alike}
use Rattle.mrd_find.specs.FindLaws.{Finding}
use Rattle.mrd_find.proofs.search.find.Given as goal

abbrev pub invariant-loop-i : goal.invariant-loop-i
invariant-loop-i l = Alike 17 (counters_of l.header.0.now) l.counters l.i

abbrev pub invariant-records : goal.invariant-records
invariant-records l = Finding l.rules l.n l.counters l.c l.s

abbrev pub decreases-records : goal.decreases-records
decreases-records l = length l.s - l.c.start
