-- `mrd_columns::columns::put_places` meets its contract. The loop's invariant: the columns hold the entries of the records that were passed. The measure
-- is the bytes of the stream left.
-- Assumes nothing.
use Prim.Native.Nat.{◌-◌}
use lib.ListN.{length}
use Rattle.mrd_columns.specs.ColumnLaws.{FillingAll}
use Rattle.mrd_columns.proofs.columns.put_places.Given as goal

abbrev pub invariant-loop-record : goal.invariant-loop-record
invariant-loop-record l = FillingAll l.rules l.s l.initial.starts l.initial.ids l.initial.counters l.c l.starts l.ids l.counters

abbrev pub decreases-loop-record : goal.decreases-loop-record
decreases-loop-record l = length l.s - l.c.start
