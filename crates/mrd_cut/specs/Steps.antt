-- The steps of a cursor that hand out a stream's messages in order, and then its answer.
-- Assumes nothing.
use Rattle.std.specs.Prelude.{ℕ, ◌≡◌, List}
use Rattle.mrd_cursor.specs.declared.cursor.Cursor.{Cursor}
use Rattle.mrd_stream.specs.Walk.{Trace, message, done}
use Rattle.mrd_stream.specs.Places.{located, yields, over, step}
use Rattle.mrd_format.specs.declared.rules.Rules.{Rules}

-- the steps from c on hand out what the trace holds: each message's place and kind, with the cursor of what follows, and last the answer
abbrev pub Yields : Rules → List ℕ → Cursor → Trace → Type 0
Yields rules s c (message d k m r) = (d ≡ c) × ((next : Cursor) × (step rules c s ≡ yields (located c k m) next) × Yields rules s next r)
Yields rules s c (done v) = step rules c s ≡ over v
