-- `mrd_utf8::characters` meets its contract. The loop's invariant: the first i octets are whole characters. The measure is what is
-- left of s. Assumes nothing.
use native.Mathlib.Omega.{arith}
use Rattle.mrd_utf8.specs.Whole.{whole_four}
use Rattle.mrd_utf8.proofs.characters.Goals as goal

pub loop-i-preserved : goal.loop-i-preserved
loop-i-preserved c =
    whole_four c.loop-i.invariant (omega arith) c.character-n.ensures
