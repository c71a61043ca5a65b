-- `mrd_index::file::put_entries` meets its contract. The loop's invariant: out holds the entries of the records that were passed from byte 16 on.
-- The measure is the bytes of the stream left.
-- Assumes nothing.
use Prim.Native.Nat.{◌-◌}
use lib.ListN.{length}
use Rattle.mrd_index.specs.Filling.{in_file, Filling}
use Rattle.mrd_index.proofs.file.put_entries.Given as goal

abbrev pub invariant-loop-record : goal.invariant-loop-record
invariant-loop-record l = Filling l.rules in_file l.s l.initial.out l.c l.out

abbrev pub decreases-loop-record : goal.decreases-loop-record
decreases-loop-record l = length l.s - l.c.start
