-- `mrd_index_fields::put_front` meets its contract: the fields are stored one after the other.
-- Assumes nothing.
use native.Mathlib.Omega.{arith}
use mathlib.Core.Path.{refl}
use Rattle.mrd_numbers.specs.Little.{to_bytes}
use Rattle.mrd_tagged.specs.Tagged.{heading}
use Rattle.mrd_tagged.specs.TaggedLaws.{four-stored}
use Rattle.mrd_index_fields.proofs.put.put_front.Goals as goal

pub returns : goal.returns
returns c =
    let a = c.args in
    four-stored a.out.now (heading 1 2) (to_bytes 2 1) (heading 2 8) (to_bytes 8 a.total) 0 3 5 8 refl refl refl
    (omega (arith, c.requires)) c.put_tag.ensures c.put_at.ensures
    c.put_tag-2.ensures c.put_at-2.ensures
