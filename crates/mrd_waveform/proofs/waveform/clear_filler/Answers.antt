-- `mrd_waveform::clear_filler` meets its contract: a packed header has no filler, and an aligned one is cleared.
-- Assumes nothing.
use mathlib.Core.Path.{sym}
use Rattle.mrd_format.proofs.WaveformLaws.{packed_front}
use Rattle.mrd_waveform.proofs.waveform.clear_filler.Goals as goal

pub clear_aligned-requires : goal.clear_aligned-requires
clear_aligned-requires c = rw c.in-Aligned.is at c.requires

pub returns-in-Packed : goal.returns-in-Packed
returns-in-Packed c =
    rw c.in-Packed.is (sym (packed_front c.args.out.now (rw c.in-Packed.is at c.requires)))

pub returns-in-Aligned : goal.returns-in-Aligned
returns-in-Aligned c = rw c.in-Aligned.is c.clear_aligned.ensures
