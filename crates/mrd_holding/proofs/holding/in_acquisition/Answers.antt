-- `mrd_holding::holding::in_acquisition` meets its contract: past its trajectory stands one channel after the other.
-- Assumes nothing.
use native.Mathlib.Omega.{arith}
use Rattle.mrd_holding.specs.HeldLaws.{channel-some, channel-told}
use Rattle.mrd_holding.proofs.holding.in_acquisition.Goals as goal

pub nonzero_div-c : goal.nonzero_div-c
nonzero_div-c c =
    let t = c.trajectory_size-trajectory.ensures.0 in
    rw c.channel_size-samples.ensures.0
    (channel-some _ c.args.size c.args.at c.requires (omega (arith, t, c.if-at-first.false)))

pub returns : goal.returns
returns c =
    let t = c.trajectory_size-trajectory.ensures.0 in
    rw (c.held-2.ensures, t, c.channel_size-samples.ensures.0)
    (channel-told _ c.args.size c.args.at c.requires (omega (arith, t, c.if-at-first.false)))
