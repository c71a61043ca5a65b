-- `mrd_parts::parts::in_waveform` meets its contract: what a message holds after a waveform's header are its data.
-- Assumes nothing.
use native.Mathlib.Omega.{arith}
use Rattle.mrd_parts.specs.PartLaws.{waveform-rest}
use Rattle.mrd_parts.proofs.parts.in_waveform.Goals as goal

pub overflow_sub-size : goal.overflow_sub-size
overflow_sub-size c = omega (arith, c.header_size-after.ensures, waveform-rest c.requires)
