-- `mrd_format::rules::Layout::offsets` meets its contract: all offsets go by the filler in front of the flags.
-- Assumes nothing.
use mathlib.Core.Path.{sym}
use Rattle.mrd_format.proofs.WaveformLaws.{offsets_shifted}
use Rattle.mrd_format.proofs.rules.Layout.offsets.Goals as goal

pub returns : goal.returns
returns c = rw c.front_filler-filler.ensures.0 (sym (offsets_shifted c.args.self))
