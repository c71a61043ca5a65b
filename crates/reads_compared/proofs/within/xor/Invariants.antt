-- The numbers at the places so far are taken together.
use Rattle.std.proofs.Common.{◌≡◌}
use Rattle.reads_compared.specs.Within.{read_width, xor_to}
use Rattle.reads_compared.proofs.within.xor.Given as goal

abbrev pub invariant-loop-at : goal.invariant-loop-at
invariant-loop-at g l = l.x ≡ xor_to (read_width l.width) l.s l.at
