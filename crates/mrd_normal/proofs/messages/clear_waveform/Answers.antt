-- `mrd_normal::messages::clear_waveform` meets its contract: the header after the id is stored with its filler zero.
-- Assumes nothing.
use mathlib.Core.Path.{ap, ◌∙◌}
use mathlib.Core.List.{List}
use Prim.Native.Nat.{ℕ}
use lib.ListN.{take}
use Rattle.mrd_numbers.specs.Stored.{stored, stored-part, part-from}
use Rattle.mrd_format.specs.Waveform.{header_bytes, cleared}
use Rattle.mrd_normal.proofs.messages.clear_waveform.Goals as goal

pub returns : goal.returns
returns c =
    let a = c.args in
    let o = a.out.now in
    stored-part 2 o _ _ c.clear_filler.ensures ∙
    ap (λ (t : List ℕ). stored 2 (cleared a.layout (take (header_bytes a.layout) t)) o) (part-from 2 o)
