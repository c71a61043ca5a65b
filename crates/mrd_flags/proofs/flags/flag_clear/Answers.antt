-- `mrd_flags::flags::flag_clear` meets its contract: `and` with the complement of the flag alone clears it.
-- Assumes nothing.
use Rattle.mrd_flags.specs.FlagLaws.{clear_by_mask}
use Rattle.mrd_flags.proofs.flags.flag_clear.Goals as goal

pub returns : goal.returns
returns c = rw c.mask.ensures (clear_by_mask c.args.n c.args.flags c.ranges.flags.fits)
