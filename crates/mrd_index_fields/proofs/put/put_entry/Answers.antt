-- `mrd_index_fields::put_entry` meets its contract: there is room, and the fields are stored one after the other.
-- Assumes nothing.
use Prim.Native.Nat.{◌+◌}
use native.Mathlib.Omega.{arith}
use mathlib.Core.Path.{refl}
use Rattle.mrd_numbers.specs.Little.{to_bytes}
use Rattle.mrd_tagged.specs.Tagged.{heading}
use Rattle.mrd_tagged.specs.TaggedLaws.{four-stored}
use Rattle.mrd_index_fields.proofs.put.put_entry.Goals as goal

pub returns-then-out-at : goal.returns-then-out-at
returns-then-out-at c = absurd (omega (arith, c.if-out-at.true, c.requires))

pub returns : goal.returns
returns c =
    let a = c.args in
    four-stored a.out.now (heading 3 14) (to_bytes 8 a.entry.start) (to_bytes 2 a.entry.id) (to_bytes 4 a.entry.counter)
    a.at (a.at + 3) (a.at + 11) (a.at + 13) refl (omega arith) (omega arith) (omega (arith, c.requires)) c.put_tag.ensures
    c.put_at.ensures c.put_at-2.ensures c.put_at-3.ensures
