-- `mrd_message::FixedPart::size` meets its contract: the whole may be capped after its body.
-- Assumes nothing.
use Rattle.std.specs.Prelude.{ℕ, ◌+◌}
use Rattle.std.proofs.Common.{ap, ◌∙◌}
use Rattle.mrd_format.specs.Message.{size_of}
use Rattle.mrd_format.specs.Sizes.{capped}
use Rattle.mrd_format.specs.SizeLaws.{capped-sum}
use Rattle.mrd_message.proofs.message.FixedPart.size.Goals as goal

pub returns : goal.returns
unfolding size_of
returns c = c.cap.ensures ∙ capped-sum _ _ _ _ (ap (λ (f : ℕ). capped (2 + f)) c.fixed_size.ensures) c.body_size.ensures.0
