-- The index's entry as the code keeps it.
-- Assumes nothing.
use Rattle.mrd_stream.specs.Index.{Entry}
use Rattle.mrd_index_fields.specs.declared.entry.Entry as kept

abbrev pub entry_meaning : kept.Entry → Entry
entry_meaning e = record { start = e.start; id = e.id; counter = e.counter }
