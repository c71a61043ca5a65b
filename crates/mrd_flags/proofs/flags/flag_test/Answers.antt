-- `mrd_flags::flags::flag_test` meets its contract: `and` with the flag alone is zero exactly where the flag is not set.
-- Assumes nothing.
use Rattle.mrd_flags.specs.FlagLaws.{test_by_mask}
use Rattle.mrd_flags.proofs.flags.flag_test.Goals as goal

pub returns : goal.returns
returns c = rw c.mask.ensures (test_by_mask c.args.n c.args.flags)
