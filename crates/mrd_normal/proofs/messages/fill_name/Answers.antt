-- `mrd_normal::messages::fill_name` meets its contract: the zeros are stored after the name.
-- Assumes nothing.
use Prim.Native.Nat.{ℕ, ◌+◌, ◌-◌}
use mathlib.Core.Path.{ap, ◌∙◌}
use lib.ListN.{replicate, length-replicate}
use Rattle.mrd_numbers.specs.Stored.{stored, stored-part}
use Rattle.mrd_normal.proofs.messages.fill_name.Goals as goal

pub returns : goal.returns
returns c =
    let name = c.length-length in
    let o = c.args.out.now in
    stored-part (2 + name.result) o (replicate (1024 - name.result) 0) _
    (c.put_zeros.ensures ∙ rw (length-replicate {A = ℕ} (1024 - name.result) 0)) ∙
    ap (λ (n : ℕ). stored (2 + n) (replicate (1024 - n) 0) o) name.ensures.0
