-- 'Record list': the records of a stream, in stream order.
-- Assumes nothing.
use Rattle.std.specs.Prelude.{ℕ, List, [], ◌∷◌}
use Rattle.mrd_format.specs.Content.{Record, record_of}
use Rattle.mrd_stream.specs.Walk.{Trace, message, done, trace}
use Rattle.mrd_format.specs.declared.rules.Rules.{Rules}

abbrev pub records_of : Trace → List Record
records_of (message c k m r) = record_of k m ∷ records_of r
records_of (done v) = []

-- the record list of a stream
unfoldable pub records : Rules → List ℕ → List Record
records rules s = records_of (trace rules s)
