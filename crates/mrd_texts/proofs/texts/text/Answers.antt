-- `mrd_texts::texts::text` meets its contract: a part of a message of its kind's size lies in it.
-- Assumes nothing.
use Rattle.mrd_texts.specs.Whole.{is-sized, inside}
use Rattle.mrd_texts.proofs.texts.text.Goals as goal

pub locate-sought-requires : goal.locate-sought-requires
locate-sought-requires c = rw (c.of.ensures.kind, c.of.ensures.bytes) (is-sized c.requires)

pub bytes_in-requires : goal.bytes_in-requires
bytes_in-requires c = rw (c.locate-sought.ensures, c.of.ensures.kind, c.of.ensures.bytes) (inside c.requires _)
