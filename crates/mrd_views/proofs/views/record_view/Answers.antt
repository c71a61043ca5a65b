-- `mrd_views::views::record_view` meets its contract: the part's place in its message, from the record's start on.
-- Assumes nothing.
use native.Mathlib.Omega.{arith}
use mathlib.Core.Path.{◌≡◌}
use Rattle.std.specs.Prelude.{Some}
use Rattle.mrd_stream.specs.ReaderMeaning.{record_meaning}
use Rattle.mrd_parts.specs.Sought.{part_meaning}
use Rattle.mrd_views.specs.ViewLaws.{start_fits, fixed-sized}
use Rattle.mrd_views.proofs.views.record_view.Goals as goal

pub locate-sought-requires : goal.locate-sought-requires
locate-sought-requires c =
    let a = c.args in
    rw (c.fixed_part.ensures.kind, c.fixed_part.ensures.bytes) (fixed-sized a.s.now (record_meaning a.here) c.requires.1)

pub overflow_add-result : goal.overflow_add-result
overflow_add-result c =
    let a = c.args in
    let found : c.locate-sought.result ≡ Some c.in_ok-extent.extent = grind arith in
    let there = rw (found, c.fixed_part.ensures.kind, c.fixed_part.ensures.bytes) at c.locate-sought.ensures in
    omega (arith, rw (← there) at (start_fits a.s.now (record_meaning a.here) c.requires.1 (part_meaning a.part)), c.well_formed)
