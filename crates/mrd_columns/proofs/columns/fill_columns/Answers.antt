-- `mrd_columns::fill_columns` meets its contract: a refused stream, and a column too short, leave all as they are; else each holds the records' numbers.
-- Assumes nothing.
use mathlib.Core.Path.{sym, ◌∙◌}
use Rattle.mrd_stream.specs.Refused.{told-stream}
use Rattle.mrd_index.specs.Counted.{entries-count}
use Rattle.mrd_columns.specs.ColumnLaws.{stream-refused, column-short, columns-fit, rooms, filled}
use Rattle.mrd_columns.proofs.columns.fill_columns.Goals as goal

pub returns-in_err-count : goal.returns-in_err-count
returns-in_err-count c =
    let is = told-stream (λ n. n) _ _ c.from_residual.ensures.1 in
    record {
      result_value = is ∙ sym (stream-refused _ c.args.s.now (sym c.in_err-count.ensures) _ _ _);
      starts_after = rw is;
      ids_after = rw is;
      counters_after = rw is;
    }

pub returns-then-starts-count-clause-result_value : goal.returns-then-starts-count-clause-result_value
returns-then-starts-count-clause-result_value c =
    sym (column-short _ c.args.s.now (sym c.in_ok-count.ensures) _ _ _ c.if-starts-count.true)

pub put_places-requires : goal.put_places-requires
put_places-requires c = rw (entries-count _ c.args.s.now (sym c.in_ok-count.ensures)) (rooms _ _ _ _ c.if-starts-count.false)

pub returns : goal.returns
returns c =
    let a = c.args in
    let passed = sym c.in_ok-count.ensures in
    let put = c.put_places.ensures in
    let done =
    filled _ a.s.now passed a.starts.now a.ids.now a.counters.now _ _ _
    (put.starts_after, (put.ids_after, put.counters_after)) in
    record {
      result_value = sym (columns-fit _ a.s.now passed _ _ _ c.if-starts-count.false);
      starts_after = done.0;
      ids_after = done.1.0;
      counters_after = done.1.1;
    }
