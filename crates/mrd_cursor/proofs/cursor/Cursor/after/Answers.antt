-- `mrd_cursor::Cursor::after` meets its contract: each field is the definition's.
-- Assumes nothing.
use Rattle.mrd_cursor.proofs.cursor.Cursor.after.Goals as goal

pub returns : goal.returns
returns c = rw c.next.ensures
