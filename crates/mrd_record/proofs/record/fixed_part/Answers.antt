-- `mrd_record::record::fixed_part` meets its contract: the record lies in the stream, and its fixed part two bytes after its start.
-- Assumes nothing.
use Prim.Native.Nat.{ℕ, ◌-◌, ◌+◌}
use native.Mathlib.Omega.{arith}
use mathlib.Core.Path.{◌≡◌, ap, ◌∙◌}
use lib.ListN.{take, drop}
use Rattle.mrd_format.specs.Kinds.{fixed_size}
use Rattle.mrd_format.specs.Shapes.{kind_of}
use Rattle.mrd_stream.specs.ReaderMeaning.{record_meaning}
use Rattle.mrd_record.specs.RecordLaws.{fixed-place, fixed-fits}
use Rattle.mrd_record.proofs.record.fixed_part.Goals as goal

pub overflow_add-to : goal.overflow_add-to
overflow_add-to c =
    let a = c.args in
    omega (arith, fixed-fits a.s.now (record_meaning a.here) c.requires.1, c.fixed_size.ensures ∙ ap fixed_size c.kind-kind.ensures)

pub slice_bounds-result-end : goal.slice_bounds-result-end
slice_bounds-result-end c =
    let a = c.args in
    omega (arith, fixed-fits a.s.now (record_meaning a.here) c.requires.1, c.fixed_size.ensures ∙ ap fixed_size c.kind-kind.ensures)

pub returns-clause-bytes : goal.returns-clause-bytes
returns-clause-bytes c =
    let a = c.args in
    let from = a.here.place.start + 2 in
    let size : from + c.fixed_size.result - from ≡ fixed_size (kind_of a.here.shape) = omega
    (arith, c.fixed_size.ensures ∙ ap fixed_size c.kind-kind.ensures) in
    ap (λ (k : ℕ). take k (drop from a.s.now)) size ∙ fixed-place a.s.now (record_meaning a.here) c.requires.1
