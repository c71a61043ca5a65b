-- The part of the stream that a reply shows: 'each is that part of the lent stream itself'; 'a refused view is the empty part at the stream's front'.
-- Assumes nothing.
use Rattle.std.specs.Prelude.{ℕ, ◌-◌, ◌≡◌, ◌&&◌, List, leb, length, take, drop}
use Rattle.mrd_logic.specs.Answer.{Answer, answered, stream, number}
use Rattle.mrd_logic.specs.Choice.{pick}
use Rattle.mrd_views.specs.declared.views.Span.{Span}
use Rattle.mrd_ask.specs.Replies.{Replied, place, view, field, found}

abbrev pub empty_span : Span
empty_span = record { start = 0; length = 0 }

-- the place that a reply says: a view's, else nothing at the front
abbrev pub span_of : Answer Replied → Span
span_of (answered (view x)) = x
span_of (answered (place l)) = empty_span
span_of (answered (field v)) = empty_span
span_of (answered (found i)) = empty_span
span_of (stream f r b) = empty_span
span_of (number n) = empty_span

-- a place where n bytes have it, else nothing at their front
unfoldable pub fitted : ℕ → Span → Span
fitted n x = pick (leb x.start n && leb x.length (n - x.start)) x empty_span

-- the place that a reply says lies in s, and so is the one that is shown
abbrev pub SpanIn : List ℕ → Answer Replied → Type 0
SpanIn s a = fitted (length s) (span_of a) ≡ span_of a

-- the bytes of s at a place
abbrev pub spanned : Span → List ℕ → List ℕ
spanned x s = take x.length (drop x.start s)
