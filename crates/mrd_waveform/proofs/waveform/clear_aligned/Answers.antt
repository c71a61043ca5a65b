-- `mrd_waveform::waveform::clear_aligned` meets its contract: zeros are stored in the two places of an aligned header's filler.
-- Assumes nothing.
use mathlib.Core.Path.{◌∙◌}
use lib.ListN.{replicate}
use Rattle.mrd_numbers.specs.Stored.{stored-part}
use Rattle.mrd_format.proofs.WaveformLaws.{aligned_stored}
use Rattle.mrd_waveform.proofs.waveform.clear_aligned.Goals as goal

pub returns : goal.returns
returns c =
    let o = c.args.out.now in
    rw (stored-part 2 o (replicate 6 0) _ c.put_zeros.ensures)
    (stored-part 38 _ (replicate 2 0) _ (rw (stored-part 2 o (replicate 6 0) _ c.put_zeros.ensures) at c.put_zeros-2.ensures) ∙ aligned_stored o c.requires)
