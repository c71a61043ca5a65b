-- `mrd_columns::columns::put_place` meets its contract: the columns have the place, and each number is stored there.
-- Assumes nothing.
use native.Mathlib.Omega.{arith}
use Rattle.mrd_tagged.specs.TaggedLaws.{set-stored}
use Rattle.mrd_columns.specs.ColumnLaws.{place-there}
use Rattle.mrd_columns.proofs.columns.put_place.Goals as goal

pub returns-then-starts-n : goal.returns-then-starts-n
returns-then-starts-n c = absurd (place-there c.args.n _ _ _ c.requires c.if-starts-n.true)

pub returns : goal.returns
returns c =
    let a = c.args in
    record {
      starts_after = set-stored a.starts.now a.n a.entry.start (omega (arith, c.requires.starts));
      ids_after = set-stored a.ids.now a.n a.entry.id (omega (arith, c.requires.ids));
      counters_after = set-stored a.counters.now a.n a.entry.counter (omega (arith, c.requires.counters));
    }
