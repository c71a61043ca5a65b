-- `mrd_salvage::salvage_report` meets its contract: the report goes by how far the walk came.
-- Assumes nothing.
use mathlib.Core.Path.{◌∙◌}
use borrow.Author.Rules.{rules}
use Rattle.mrd_salvage.specs.ReachLaws.{reached-within}
use Rattle.mrd_salvage.proofs.KeptLaws.{report-reached}
use Rattle.mrd_salvage.proofs.salvage_report.Goals as goal

pub report-requires : goal.report-requires
report-requires c =
    let a = c.args in
    let within = reached-within a.rules a.s.now in
    rw c.walk-reached.ensures (within.0, within.1, search rules)

pub returns : goal.returns
returns c =
    let a = c.args in
    rw c.walk-reached.ensures at c.report.ensures ∙ report-reached a.rules a.s.now
