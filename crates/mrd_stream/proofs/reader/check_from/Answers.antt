-- `mrd_stream::check_from` meets its contract: by the profile.
-- Assumes nothing.
use Rattle.mrd_stream.proofs.reader.check_from.Goals as goal

pub check_plain-requires : goal.check_plain-requires
check_plain-requires c = c.in-Plain.is
