-- `mrd_index_fields::front_same` meets its contract: the fields stand one after the other.
-- Assumes nothing.
use native.Mathlib.Omega.{arith}
use mathlib.Core.Path.{refl, sym}
use Rattle.mrd_logic.specs.ListLaws.{rest-short}
use Rattle.mrd_numbers.specs.Little.{to_bytes}
use Rattle.mrd_tagged.specs.Tagged.{heading}
use Rattle.mrd_tagged.specs.TaggedLaws.{four_same}
use Rattle.mrd_stream.specs.Index.{front_field}
use Rattle.mrd_index_fields.proofs.same.front_same.Goals as goal

pub returns-then-file-lt-FRONT : goal.returns-then-file-lt-FRONT
returns-then-file-lt-FRONT c =
    let a = c.args in
    sym (rest-short a.file.now (front_field a.total) 0 (omega arith) c.if-file-lt-FRONT.true)

pub returns : goal.returns
returns c =
    let a = c.args in
    rw (c.tag_same-2.ensures, c.same_at-2.ensures, c.tag_same.ensures, c.same_at.ensures)
    (four_same a.file.now (heading 1 2) (to_bytes 2 1) (heading 2 8) (to_bytes 8 a.total) 0 3 5 8 refl refl refl)
