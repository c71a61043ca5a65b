-- `mrd_acquisition::acquisition::channel_size` meets its contract: the product is that of the definition.
-- Assumes nothing.
use borrow.Author.Rules.{rules}
use Rattle.mrd_format.specs.Acquisition.{channel_size}
use Rattle.mrd_acquisition.proofs.acquisition.AcquisitionHeader.channel_size.Goals as goal

pub returns : goal.returns
unfolding channel_size
returns c = (simp c.read.ensures, search rules)
