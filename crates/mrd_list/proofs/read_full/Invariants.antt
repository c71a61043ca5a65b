-- No more was read than out holds.
use Rattle.std.proofs.Common.{◌≤◌, length}
use Rattle.mrd_list.proofs.read_full.Given as goal

abbrev pub invariant-loop : goal.invariant-loop
invariant-loop g l = l.got ≤ length l.out
