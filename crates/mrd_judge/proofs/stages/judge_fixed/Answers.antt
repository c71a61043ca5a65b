-- `mrd_judge::judge_fixed` meets its contract: the fixed part fits or not, and where it does its own checks decide.
-- Assumes nothing.
use Prim.Native.Nat.{◌+◌, ◌≤◌, ◌<◌}
use native.Mathlib.Omega.{arith}
use borrow.Author.Tests.{lt-ltb, le-ltb}
use lib.ListN.{length}
use Rattle.mrd_format.specs.Kinds.{fixed_size}
use Rattle.mrd_judge.specs.Stages.{fixed_checks}
use Rattle.mrd_judge.proofs.stages.judge_fixed.Goals as goal

pub returns-then-t-fixed_size : goal.returns-then-t-fixed_size
unfolding fixed_checks
returns-then-t-fixed_size c =
    let short : length c.args.t.now < 2 + fixed_size c.args.kind = omega (arith, c.fixed_size.ensures, c.requires) in
    rw (lt-ltb _ _ short)

pub of-requires : goal.of-requires
of-requires c = omega (arith, c.fixed_size.ensures, c.requires)

pub returns : goal.returns
unfolding fixed_checks
returns c =
    let fits : 2 + fixed_size c.args.kind ≤ length c.args.t.now =
    omega (arith, c.fixed_size.ensures, c.requires) in
    rw (le-ltb _ _ fits, ← c.of.ensures.bytes, ← c.of.ensures.kind) c.check.ensures
