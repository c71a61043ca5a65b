-- `mrd_acquisition::acquisition::mask_ones` meets its contract. The loop's invariant: the ones counted, with those of the words that are left, are
-- all ones of the mask. The measure is the number of words left.
-- Assumes nothing.
use Prim.Native.Nat.{◌-◌}
use Rattle.mrd_format.specs.MaskLaws.{Counted}
use Rattle.mrd_acquisition.proofs.acquisition.AcquisitionHeader.mask_ones.Given as goal

abbrev pub invariant-loop-i : goal.invariant-loop-i
invariant-loop-i l = Counted l.self.bytes.now l.i l.ones

abbrev pub decreases-loop-i : goal.decreases-loop-i
decreases-loop-i l = 16 - l.i
