-- `mrd_acquisition::acquisition::body_size` meets its contract: the two products are those of the definition.
-- Assumes nothing.
use native.Mathlib.Nat.{mul_assoc}
use borrow.Author.Rules.{rules}
use Rattle.mrd_format.specs.Acquisition.{body_size, channel_size}
use Rattle.mrd_acquisition.proofs.acquisition.AcquisitionHeader.body_size.Goals as goal

pub returns : goal.returns
unfolding body_size channel_size
returns c = (
  simp (
    c.trajectory_size.ensures.0,
    c.product-channels.ensures.0,
    c.read-samples.ensures,
    c.read.ensures,
    mul_assoc,
  ),
  search rules,
)
