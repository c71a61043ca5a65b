-- `mrd_message::FixedPart::of` meets its contract: the part from byte 2 on is as long as the kind's fixed part.
-- Assumes nothing.
use Rattle.std.specs.Prelude.{◌+◌, ◌-◌, ◌≡◌}
use Rattle.std.proofs.Common.{arith}
use Rattle.mrd_format.specs.Kinds.{fixed_size}
use Rattle.mrd_format.specs.Message.{fixed_part}
use Rattle.mrd_message.proofs.message.FixedPart.of.Goals as goal

pub returns-clause-bytes : goal.returns-clause-bytes
unfolding fixed_part
returns-clause-bytes c =
    let size : 2 + c.fixed_size-end.result - 2 ≡ fixed_size c.args.kind = omega (arith, c.fixed_size-end.ensures) in
    rw size
