-- `mrd_utf8::whole` meets its contract. The loop's invariant: the first i octets are whole characters. The measure is what is left
-- of s. Assumes nothing.
use Prim.Native.Nat.{◌-◌}
use lib.ListN.{length}
use Rattle.mrd_utf8.specs.Whole.{Whole}
use Rattle.mrd_utf8.proofs.whole.Given as goal

abbrev pub invariant-loop-i : goal.invariant-loop-i
invariant-loop-i l = Whole l.i l.s

abbrev pub decreases-loop-i : goal.decreases-loop-i
decreases-loop-i l = length l.s - l.i
