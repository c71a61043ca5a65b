-- `mrd_acquisition::AcquisitionHeader::encoding_counter` meets its contract: counter i stands where it is read.
-- Assumes nothing.
use mathlib.Core.Path.{sym, ◌∙◌}
use Rattle.mrd_format.specs.IdentityLaws.{counters-at}
use Rattle.mrd_acquisition.proofs.acquisition.AcquisitionHeader.encoding_counter.Goals as goal

pub returns : goal.returns
returns c = c.read.ensures ∙ sym (counters-at c.args.self.bytes.now c.args.i c.requires)
