-- `mrd_stream::place` meets its contract. The loop's invariant: seeking on from the cursor, with what was found, gives the place asked for.
-- The measure is the bytes left.
-- Assumes nothing.
use Prim.Native.Nat.{◌-◌}
use lib.ListN.{length}
use Rattle.mrd_stream.specs.Places.{place}
use Rattle.mrd_stream.specs.Seek.{seek}
use Rattle.mrd_stream.specs.StepLaws.{On}
use Rattle.mrd_stream.specs.ReaderMeaning.{placed_meaning}
use Rattle.mrd_stream.proofs.reader.place.Given as goal

abbrev pub invariant-loop-record : goal.invariant-loop-record
invariant-loop-record l = On l.rules (seek l.n (placed_meaning l.found)) (place l.rules l.s l.n) l.c l.s

abbrev pub decreases-loop-record : goal.decreases-loop-record
decreases-loop-record l = length l.s - l.c.start
