-- 'Views': 'text, name, attributes, trajectory, one channel's samples, pixels, waveform data: each is that part of the lent stream itself'.
-- Assumes nothing.
use Rattle.std.specs.Prelude.{ℕ, ◌+◌, ◌≤◌, List, [], length, take, drop, Result}
use Rattle.mrd_logic.specs.Answer.{Answer, answered, stream, number, and_then}
use Rattle.mrd_format.specs.Message.{fixed_part}
use Rattle.mrd_format.specs.Parts.{Reach, lies, lacks}
use Rattle.mrd_format.specs.Content.{extent_of}
use Rattle.mrd_parts.specs.declared.parts.Part.{Part}
use Rattle.mrd_parts.specs.Sought.{part_meaning}
use Rattle.mrd_stream.specs.Places.{Located, place}
use Rattle.mrd_stream.specs.Refused.{told}
use Rattle.mrd_stream.specs.declared.refused.Refused.{Refused}
use Rattle.mrd_cut.specs.CutPlaces.{part_at}
use Rattle.mrd_views.specs.declared.views.Span.{Span}
use Rattle.mrd_format.specs.declared.rules.Rules.{Rules}

-- a view's place in a stream: its first byte and its length
abbrev pub span : ℕ → ℕ → Span
span i z = record { start = i; length = z }

-- 17: 'the record has no such part or channel'
abbrev pub shown_at : Reach → ℕ → Answer Span
shown_at (lies e) start = answered (span (start + e.offset) e.size)
shown_at lacks start = number 17

-- the place of a part of the record whose place is answered
abbrev pub view_by : Answer Located → Part → List ℕ → Answer Span
view_by a p s =
    and_then a (λ l. shown_at (extent_of (part_meaning p) l.kind (fixed_part l.kind (part_at s l))) l.start)

-- the place of a part of record n: the stream's refusal first, then 16, then 17
unfoldable pub view_of : Rules → List ℕ → ℕ → Part → Answer Span
view_of rules s n p = view_by (place rules s n) p s

-- the view itself: 'a refused view is the empty part at the stream's front'
abbrev pub shown : Answer Span → List ℕ → List ℕ
shown (answered x) s = take x.length (drop x.start s)
shown (stream f r b) s = []
shown (number n) s = []

-- where in the stream it starts
abbrev pub start_of : Answer Span → ℕ
start_of (answered x) = x.start
start_of (stream f r b) = 0
start_of (number n) = 0

-- a view's place lies in s
abbrev pub ViewIn : List ℕ → Answer Span → Type 0
ViewIn s (answered x) = x.start + x.length ≤ length s
ViewIn s (stream f r b) = Unit {0}
ViewIn s (number n) = Unit {0}

-- what an answered place says
abbrev pub view_meaning : Result Span Refused → Answer Span
view_meaning r = told (λ x. x) r
