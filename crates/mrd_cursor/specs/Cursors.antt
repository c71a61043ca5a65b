-- Where a walk is: at the beginning, and after one message more.
-- Assumes nothing.
use Rattle.std.specs.Prelude.{ℕ, ◌+◌}
use Rattle.mrd_format.specs.declared.kind.Kind.{Kind}
use Rattle.mrd_cursor.specs.declared.cursor.Phase.TheVariants.{Start}
use Rattle.mrd_cursor.specs.declared.cursor.Cursor.{Cursor}
use Rattle.mrd_cursor.specs.Order.{next_phase}

-- the most messages that a stream may have: 'a message begins after 1,000,000 messages' is refused
abbrev pub max_messages : ℕ
max_messages = 1000000

-- where each walk begins
abbrev pub beginning : Cursor
beginning = record { number = 0; start = 0; phase = Start }

-- where the walk is after a message of kind k and size z
abbrev pub after : Cursor → Kind → ℕ → Cursor
after c k z = record { number = c.number + 1; start = c.start + z; phase = next_phase k c.phase }
