-- `mrd_acquisition::acquisition::discards_exceed` meets its contract: the numbers are those read at their offsets.
-- Assumes nothing.
use Rattle.mrd_acquisition.proofs.acquisition.AcquisitionHeader.discards_exceed.Goals as goal

pub returns : goal.returns
returns c = simp (c.read.ensures, c.read-2.ensures, c.read-3.ensures)
