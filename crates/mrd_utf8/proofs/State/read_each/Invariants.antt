-- Reading on after the octets so far gives what reading all of them gives.
use Rattle.mrd_utf8.specs.Due.{due_of}
use Rattle.mrd_utf8.specs.Reading.{Reading}
use Rattle.mrd_utf8.proofs.State.read_each.Given as goal

abbrev pub invariant-loop-octet : goal.invariant-loop-octet
invariant-loop-octet l = Reading l.s (due_of l.initial.state) (due_of l.state) l.octet-index
