-- `mrd_waveform::scan_counter` meets its contract: the number is read at its offset.
-- Assumes nothing.
use native.Mathlib.Omega.{arith}
use Rattle.mrd_format.specs.Waveform.{scan-counter}
use Rattle.mrd_format.proofs.WaveformLaws.{elements-within, offset_in_lem, read_there}
use Rattle.mrd_waveform.proofs.waveform.WaveformHeader.scan_counter.Goals as goal

pub read-requires : goal.read-requires
read-requires c =
    omega (arith, offset_in_lem c.args.self.layout scan-counter c.offsets-at.ensures, c.args.self.long, (elements-within c.args.self.layout).1.1.1.0)

pub returns : goal.returns
returns c =
    let a = c.args in
    read_there a.self.layout scan-counter a.self.bytes.now (offset_in_lem a.self.layout scan-counter c.offsets-at.ensures) c.read.ensures
