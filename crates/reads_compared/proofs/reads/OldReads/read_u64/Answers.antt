-- `reads_compared::reads::OldReads::read_u64` meets its contract: the halves of a number, at 4 bytes.
-- Assumes nothing.
use Rattle.mrd_numbers.specs.Laws.{num-halves}
use Rattle.reads_compared.proofs.reads.OldReads.read_u64.Goals as goal

pub returns : goal.returns
returns c = simp (c.read_u32.ensures, c.read_u32-2.ensures, num-halves 4 4)
