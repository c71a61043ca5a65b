-- `mrd_utf8::whole` meets its contract. The loop's invariant: the first i octets are whole characters. The measure is what is left
-- of s. Assumes nothing.
use Prim.Native.Nat.{◌+◌, ◌-◌}
use Rattle.mrd_utf8.specs.Whole.{whole_part}
use Rattle.mrd_utf8.proofs.whole.Goals as goal

pub loop-i-preserved : goal.loop-i-preserved
loop-i-preserved c =
    let loop = c.loop-i in
    whole_part loop.invariant (loop.i + 32 - loop.i) c.whole_in_block-n.ensures
