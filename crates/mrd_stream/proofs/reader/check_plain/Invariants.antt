-- `mrd_stream::reader::check_plain` meets its contract. The loop's invariant: the answer from the cursor on is the answer from the first cursor on. The measure is the
-- bytes left.
-- Assumes nothing.
use Prim.Native.Nat.{◌-◌}
use mathlib.Core.Path.{◌≡◌}
use lib.ListN.{length}
use Rattle.mrd_stream.specs.Walk.{from, verdict}
use Rattle.mrd_stream.proofs.reader.check_plain.Given as goal

abbrev pub invariant-loop-c : goal.invariant-loop-c
invariant-loop-c l = verdict (from l.rules l.c l.s) ≡ verdict (from l.rules l.initial.c l.s)

abbrev pub decreases-loop-c : goal.decreases-loop-c
decreases-loop-c l = length l.s - l.c.start
