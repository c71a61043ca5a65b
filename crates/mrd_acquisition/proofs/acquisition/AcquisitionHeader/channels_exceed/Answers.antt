-- `mrd_acquisition::acquisition::channels_exceed` meets its contract: the numbers are those read at their offsets.
-- Assumes nothing.
use Rattle.mrd_acquisition.proofs.acquisition.AcquisitionHeader.channels_exceed.Goals as goal

pub returns : goal.returns
returns c = simp (c.read.ensures, c.read-2.ensures)
