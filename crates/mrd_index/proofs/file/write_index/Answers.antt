-- `mrd_index::write_index` meets its contract: a refused stream, and an output too short for the index, leave the output as it is; else it holds the front,
-- the entries and the end.
-- Assumes nothing.
use native.Mathlib.Omega.{arith}
use mathlib.Core.Path.{sym, ◌∙◌}
use lib.ListN.{length}
use Rattle.mrd_stream.specs.Index.{index}
use Rattle.mrd_stream.specs.Refused.{told-stream}
use Rattle.mrd_stream.specs.Output.{stream-refused, output-short}
use Rattle.mrd_index.specs.Counted.{few}
use Rattle.mrd_index.specs.FileLaws.{index-long, entries-room, all-written}
use Rattle.mrd_index.proofs.file.write_index.Goals as goal

pub returns-in_err-count : goal.returns-in_err-count
returns-in_err-count c =
    let a = c.args in
    let i = index a.rules a.s.now in
    let done = stream-refused _ a.s.now (length i) i a.out.now (sym c.in_err-count.ensures) in
    record { result_value = told-stream _ _ _ c.from_residual.ensures.1 ∙ done.0; out_after = done.1 }

pub overflow_mul-end : goal.overflow_mul-end
overflow_mul-end c = omega (arith, few _ c.args.s.now (sym c.in_ok-count.ensures))

pub overflow_add-end : goal.overflow_add-end
overflow_add-end c = omega (arith, few _ c.args.s.now (sym c.in_ok-count.ensures))

pub overflow_add-size : goal.overflow_add-size
overflow_add-size c = omega (arith, few _ c.args.s.now (sym c.in_ok-count.ensures))

pub returns-then-out-size : goal.returns-then-out-size
returns-then-out-size c =
    let s = c.args.s.now in
    let i = index c.args.rules s in
    let passed = sym c.in_ok-count.ensures in
    let done = output-short _ s (length i) i c.args.out.now passed (rw (index-long _ s passed) c.if-out-size.true) in
    record { result_value = done.0; out_after = done.1 }

pub put_entries-requires : goal.put_entries-requires
put_entries-requires c = entries-room _ c.args.s.now (sym c.in_ok-count.ensures) c.args.out.now _ c.if-out-size.false c.put_front.ensures

pub overflow_cast-count : goal.overflow_cast-count
overflow_cast-count c = omega (arith, few _ c.args.s.now (sym c.in_ok-count.ensures))

pub returns : goal.returns
returns c =
    let done =
    all-written _ c.args.s.now (sym c.in_ok-count.ensures) c.args.out.now _ c.if-out-size.false c.put_front.ensures _ _
    c.put_entries.ensures c.put_end.ensures in
    record { result_value = done.0; out_after = done.1 }
