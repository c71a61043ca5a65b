-- `mrd_index_match::compare::compare` meets its contract. The loop's invariant: what was the same so far, and what is the same from the cursor on,
-- together say whether all is. The measure is the bytes of the stream left.
-- Assumes nothing.
use Prim.Native.Nat.{◌-◌}
use lib.ListN.{length}
use Rattle.mrd_index_match.specs.Comparing.{Comparing}
use Rattle.mrd_index_match.proofs.compare.compare.Given as goal

abbrev pub invariant-loop-record : goal.invariant-loop-record
invariant-loop-record g l =
    let m = g.G.GivenIndex in
    Comparing l.rules (m.entry_by l.given) (m.front_by l.given (length l.s)) l.s l.c l.same

abbrev pub decreases-loop-record : goal.decreases-loop-record
decreases-loop-record g l = length l.s - l.c.start
