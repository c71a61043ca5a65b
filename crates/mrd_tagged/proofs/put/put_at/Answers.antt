-- `mrd_tagged::put_at` meets its contract: bytes put at the front of the part from `at` on are stored there.
-- Assumes nothing.
use Rattle.mrd_numbers.specs.ToBytesLaws.{length-to_bytes}
use Rattle.mrd_numbers.specs.Stored.{stored-part}
use Rattle.mrd_tagged.proofs.put.put_at.Goals as goal

pub returns : goal.returns
returns g c = stored-part c.args.at c.args.out.now _ _ (rw length-to_bytes c.put.ensures)
