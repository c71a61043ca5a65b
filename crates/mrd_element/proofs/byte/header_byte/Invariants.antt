-- `mrd_element::header_byte` meets its contract. The loop's invariant: none of the elements that start fewer bytes before the offset holds it.
-- Assumes nothing.
use Rattle.mrd_element.specs.PieceLaws.{NoneOver}
use Rattle.mrd_element.proofs.byte.header_byte.Given as goal

abbrev pub invariant-loop-back : goal.invariant-loop-back
invariant-loop-back l = NoneOver l.kind l.offset l.back
