-- `mrd_salvage::salvage` meets its contract: an output too short for what is saved is left as it is; else the bytes that are kept are put.
-- Assumes nothing.
use Rattle.mrd_salvage.proofs.KeptLaws.{lost-within, output-short, room, output-fits}
use Rattle.mrd_salvage.proofs.salvage.Goals as goal

pub returns-then-out-report : goal.returns-then-out-report
returns-then-out-report c =
    let a = c.args in
    let done = output-short a.rules a.s.now a.out.now c.salvage_report-report.ensures c.if-out-report.true in
    record { result_value = done.0; out_after = done.1 }

pub overflow_sub-end : goal.overflow_sub-end
overflow_sub-end c =
    let a = c.args in
    lost-within a.rules a.s.now a.out.now c.salvage_report-report.ensures

pub put_kept-requires : goal.put_kept-requires
put_kept-requires c =
    let a = c.args in
    room a.rules a.s.now a.out.now c.salvage_report-report.ensures c.if-out-report.false

pub returns : goal.returns
returns c =
    let a = c.args in
    let done = output-fits a.rules a.s.now a.out.now c.salvage_report-report.ensures c.if-out-report.false c.put_kept.ensures in
    record { result_value = done.0; out_after = done.1 }
