-- `mrd_index_fields::put_end` meets its contract: the count is stored right after its tag.
-- Assumes nothing.
use Prim.Native.Nat.{◌+◌}
use native.Mathlib.Omega.{arith}
use mathlib.Core.Path.{refl}
use Rattle.mrd_numbers.specs.Little.{to_bytes}
use Rattle.mrd_tagged.specs.Tagged.{heading}
use Rattle.mrd_tagged.specs.TaggedLaws.{two-stored}
use Rattle.mrd_index_fields.proofs.put.put_end.Goals as goal

pub returns : goal.returns
returns c =
    let a = c.args in
    two-stored a.out.now (heading 4 4) (to_bytes 4 a.count) a.at (a.at + 3) c.put_tag.ensures
    c.put_at.ensures refl (omega (arith, c.requires))
