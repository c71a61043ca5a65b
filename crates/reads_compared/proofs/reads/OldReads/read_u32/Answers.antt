-- `reads_compared::reads::OldReads::read_u32` meets its contract: the halves of a number, at 2 bytes.
-- Assumes nothing.
use Rattle.mrd_numbers.specs.Laws.{num-halves}
use Rattle.reads_compared.proofs.reads.OldReads.read_u32.Goals as goal

pub returns : goal.returns
returns c = simp (c.read_u16.ensures, c.read_u16-2.ensures, num-halves 2 2)
