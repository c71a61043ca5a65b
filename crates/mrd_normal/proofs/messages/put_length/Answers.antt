-- `mrd_normal::messages::put_length` meets its contract: the length is stored where the header has it.
-- Assumes nothing.
use Prim.Native.Nat.{ℕ}
use mathlib.Core.Path.{ap, ◌∙◌}
use Rattle.mrd_numbers.specs.Little.{to_bytes}
use Rattle.mrd_numbers.specs.ToBytesLaws.{length-to_bytes}
use Rattle.mrd_numbers.specs.Stored.{stored, stored-part}
use Rattle.mrd_normal.proofs.messages.put_length.Goals as goal

pub returns : goal.returns
returns c =
    let length = c.attribute_length-length in
    let o = c.args.out.now in
    stored-part 196 o (to_bytes 4 length.result) _ (c.put.ensures ∙ rw length-to_bytes) ∙
    ap (λ (n : ℕ). stored 196 (to_bytes 4 n) o) length.ensures
