-- `mrd_flags::flags::flag_set` meets its contract: `or` with the flag alone sets it.
-- Assumes nothing.
use Rattle.mrd_flags.specs.FlagLaws.{set-by_mask}
use Rattle.mrd_flags.proofs.flags.flag_set.Goals as goal

pub returns : goal.returns
returns c = rw c.mask.ensures (set-by_mask c.args.n c.args.flags)
