-- `mrd_acquisition::acquisition::shape` meets its contract: each number is the one read at its offset, and the mask's answer is the definition's.
-- Assumes nothing.
use Rattle.mrd_format.specs.Acquisition.{numbers}
use Rattle.mrd_acquisition.proofs.acquisition.AcquisitionHeader.shape.Goals as goal

pub returns : goal.returns
unfolding numbers
returns c = simp (
  c.read.ensures,
  c.read-2.ensures,
  c.read-3.ensures,
  c.mask.ensures,
)
