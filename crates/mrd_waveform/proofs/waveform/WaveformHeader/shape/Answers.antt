-- `mrd_waveform::shape` meets its contract: each number is the one read at its offset.
-- Assumes nothing.
use Prim.Native.Nat.{ℕ}
use native.Mathlib.Omega.{arith}
use mathlib.Core.Path.{refl, ap₂}
use mathlib.Core.List.{[], ◌∷◌}
use Rattle.mrd_format.specs.Waveform.{channels, number-of-samples, numbers}
use Rattle.mrd_format.proofs.WaveformLaws.{elements-within, offset_in_lem, read_there}
use Rattle.mrd_waveform.proofs.waveform.WaveformHeader.shape.Goals as goal

pub read-requires : goal.read-requires
read-requires c =
    omega (arith, offset_in_lem c.args.self.layout number-of-samples c.offsets-at.ensures, c.args.self.long, (elements-within c.args.self.layout).1.1.1.1.1.0)

pub read-requires-2 : goal.read-requires-2
read-requires-2 c =
    omega (arith, offset_in_lem c.args.self.layout channels c.offsets-at.ensures, c.args.self.long, (elements-within c.args.self.layout).1.1.1.1.1.1.0)

pub returns : goal.returns
unfolding numbers
returns c =
    let a = c.args in
    let at = c.offsets-at.ensures in (
      refl,
      ap₂ (λ (n m : ℕ). n ∷ m ∷ []) (read_there a.self.layout number-of-samples a.self.bytes.now (offset_in_lem a.self.layout number-of-samples at) c.read.ensures)
          (read_there a.self.layout channels a.self.bytes.now (offset_in_lem a.self.layout channels at) c.read-2.ensures),
    )
