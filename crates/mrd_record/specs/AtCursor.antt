-- The record at a cursor: the questions about one record, asked where a walk is in place of by number.
-- Assumes nothing.
use Rattle.std.specs.Prelude.{ℕ, zero, suc, ◌≡◌, List}
use Rattle.mrd_logic.specs.Answer.{accepted, refused, Answer, answered, stream, number}
use Rattle.mrd_cursor.specs.declared.cursor.Cursor.{Cursor}
use Rattle.mrd_stream.specs.Places.{Located, Stepped, yields, over, step}
use Rattle.mrd_cut.specs.Inside.{Inside}
use Rattle.mrd_format.specs.declared.rules.Rules.{Rules}

-- the record that a step hands out; where the walk is over, the stream's refusal, or 16: 'no such record'
abbrev pub place_by : Stepped → Answer Located
place_by (yields l d) = answered l
place_by (over (accepted n)) = number 16
place_by (over (refused f r b)) = stream f r b

unfoldable pub place_at : Rules → Cursor → List ℕ → Answer Located
place_at rules c s = place_by (step rules c s)

-- the place l lies in s, at a message that is well formed by some rules
abbrev pub Lies : List ℕ → Located → Type 0
Lies s l = (rules : Rules) × Inside rules s l

-- an answered place lies in s
abbrev pub LiesIn : List ℕ → Answer Located → Type 0
LiesIn s (answered l) = Lies s l
LiesIn s (stream f r b) = Unit {0}
LiesIn s (number n) = Unit {0}

-- d is where a walk over s stands n steps after c
abbrev pub Reached : Rules → List ℕ → Cursor → ℕ → Cursor → Type 0
Reached rules s c zero d = c ≡ d
Reached rules s c (suc n) d = (l : Located) × ((next : Cursor) × ((step rules c s ≡ yields l next) × Reached rules s next n d))
