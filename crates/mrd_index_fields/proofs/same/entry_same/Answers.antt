-- `mrd_index_fields::entry_same` meets its contract: the fields of the entry stand one after the other.
-- Assumes nothing.
use Prim.Native.Nat.{◌+◌}
use native.Mathlib.Omega.{arith}
use mathlib.Core.Path.{refl, sym}
use Rattle.mrd_logic.specs.ListLaws.{rest-short}
use Rattle.mrd_numbers.specs.Little.{to_bytes}
use Rattle.mrd_tagged.specs.Tagged.{heading}
use Rattle.mrd_tagged.specs.TaggedLaws.{four_same}
use Rattle.mrd_stream.specs.Index.{entry_field}
use Rattle.mrd_index_fields.specs.IndexFields.{entry_meaning}
use Rattle.mrd_index_fields.proofs.same.entry_same.Goals as goal

pub returns-then-file-at : goal.returns-then-file-at
returns-then-file-at c =
    let a = c.args in
    sym (rest-short a.file.now (entry_field (entry_meaning a.entry)) a.at (omega arith) c.if-file-at.true)

pub returns : goal.returns
returns c =
    let a = c.args in
    rw (c.tag_same.ensures, c.same_at-3.ensures, c.same_at.ensures, c.same_at-2.ensures)
    (four_same a.file.now (heading 3 14) (to_bytes 8 a.entry.start) (to_bytes 2 a.entry.id) (to_bytes 4 a.entry.counter)
    a.at (a.at + 3) (a.at + 11) (a.at + 13) refl (omega arith) (omega arith))
