-- `mrd_acquisition::acquisition::mask_ones` meets its contract. The loop's invariant: the ones counted, with those of the words that are left, are
-- all ones of the mask. The measure is the number of words left.
-- Assumes nothing.
use native.Mathlib.Omega.{arith}
use borrow.Author.Rules.{rules}
use lib.Count.{ones-le}
use Rattle.mrd_format.specs.MaskLaws.{start, step, finish}
use Rattle.mrd_acquisition.proofs.acquisition.AcquisitionHeader.mask_ones.Goals as goal

pub loop-i-init : goal.loop-i-init
loop-i-init c = start c.args.self.bytes.now

pub overflow_add-ones : goal.overflow_add-ones
overflow_add-ones c = omega (arith, ones-le 64 c.read.result (search rules))

pub loop-i-preserved : goal.loop-i-preserved
loop-i-preserved c = let w = c.read.ensures in rw w (step c.loop-i.invariant c.loop-i-test.true (rw (← w) (search rules)))

pub returns : goal.returns
returns c = finish c.loop-i.invariant c.loop-i-test.false
