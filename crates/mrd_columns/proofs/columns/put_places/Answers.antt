-- `mrd_columns::columns::put_places` meets its contract. The loop's invariant: the columns hold the entries of the records that were passed. The measure
-- is the bytes of the stream left.
-- Assumes nothing.
use mathlib.Core.Path.{sym}
use Rattle.mrd_stream.specs.StepLaws.{step-yields, on_less}
use Rattle.mrd_index.specs.Entries.{passes-within}
use Rattle.mrd_columns.specs.ColumnLaws.{start, has-place, next, finish}
use Rattle.mrd_columns.proofs.columns.put_places.Goals as goal

pub loop-record-init : goal.loop-record-init
loop-record-init c = rw c.beginning-c.ensures (start _ c.requires)

pub entry_of-entry-requires : goal.entry_of-entry-requires
entry_of-entry-requires c = passes-within (step-yields _ _ _ (sym c.in-Message.ensures))

pub put_place-requires : goal.put_place-requires
put_place-requires c = has-place c.loop-record.invariant (step-yields _ _ _ (sym c.in-Message.ensures))

pub loop-record-smaller : goal.loop-record-smaller
loop-record-smaller c = on_less _ (step-yields _ _ _ (sym c.in-Message.ensures))

pub loop-record-preserved : goal.loop-record-preserved
loop-record-preserved c =
    let put = c.put_place.ensures in
    next c.loop-record.invariant (step-yields _ _ _ (sym c.in-Message.ensures)) c.entry_of-entry.ensures
    (put.starts_after, (put.ids_after, put.counters_after))

pub returns-in-End : goal.returns-in-End
returns-in-End c =
    let done = finish c.loop-record.invariant (sym c.in-End.ensures) in
    record { starts_after = done.0; ids_after = done.1.0; counters_after = done.1.1 }
