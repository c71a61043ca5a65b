-- `mrd_acquisition::acquisition::trajectory_size` meets its contract: the product is that of the definition.
-- Assumes nothing.
use borrow.Author.Rules.{rules}
use Rattle.mrd_format.specs.Acquisition.{trajectory_size}
use Rattle.mrd_acquisition.proofs.acquisition.AcquisitionHeader.trajectory_size.Goals as goal

pub returns : goal.returns
unfolding trajectory_size
returns c = (simp (c.product.ensures.0, c.read-samples.ensures, c.read.ensures), search rules)
