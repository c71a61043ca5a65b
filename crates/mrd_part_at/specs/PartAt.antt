-- Which record and which part of a stream a byte belongs to: 'each byte belongs to exactly one of these'.
-- Assumes nothing.
use Rattle.std.specs.Prelude.{ℕ, ◌+◌, ◌-◌, ◌≤◌, ◌<◌, List, Result}
use Rattle.mrd_logic.specs.Answer.{Answer, answered, unless_refused, and_then}
use Rattle.mrd_format.specs.declared.rules.Rules.{Rules}
use Rattle.mrd_format.specs.Message.{fixed_part}
use Rattle.mrd_format.specs.Parts.{Part, Extent, extent}
use Rattle.mrd_format.specs.Segments.{PlacedPart}
use Rattle.mrd_format.specs.Content.{placed_parts}
use Rattle.mrd_format.specs.Holding.{holding}
use Rattle.mrd_stream.specs.Walk.{trace, answer}
use Rattle.mrd_stream.specs.Places.{Located, places}
use Rattle.mrd_stream.specs.ReaderMeaning.{record_meaning}
use Rattle.mrd_stream.specs.Refused.{told}
use Rattle.mrd_stream.specs.declared.refused.Refused.{Refused}
use Rattle.mrd_cut.specs.CutPlaces.{part_at}
use Rattle.mrd_record.specs.AtCursor.{Lies}
use Rattle.mrd_views.specs.declared.views.Span.{Span}
use Rattle.mrd_views.specs.Views.{span}
use Rattle.mrd_holding.specs.Held.{Inner, part_holding, part_of, inner_of}
use Rattle.mrd_part_at.specs.declared.parts.PartPlace.{PartPlace}

-- where a record lies
abbrev pub extent_at : Located → Extent
extent_at l = extent l.start l.size

-- the record that holds byte i: the stream's refusal first, then 16 for a byte past the end
unfoldable pub record_holding : Rules → List ℕ → ℕ → Answer Located
record_holding rules s i = unless_refused (answer rules s) (holding extent_at (places (trace rules s)) i)

-- the parts of the record that lies at l, in order, each with its place in the message
abbrev pub parts_at : List ℕ → Located → List PlacedPart
parts_at s l = placed_parts l.kind (fixed_part l.kind (part_at s l))

-- what is told of a byte: the record and the part that it belongs to, where that part lies in the stream, and of a header's byte the element
pub record NamedByte : Type 0 where
  pub which : Located
  pub part : Part
  pub place : Span
  pub inner : Inner

-- the part of the record at l that holds byte i
abbrev pub part_in : List ℕ → ℕ → Located → Answer NamedByte
part_in s i l =
    and_then (part_holding l.kind (fixed_part l.kind (part_at s l)) (i - l.start))
    (λ h. answered (record { which = l; part = h.part; place = span (l.start + h.place.offset) h.place.size; inner = h.inner }))

-- what byte i of s belongs to
unfoldable pub part_of_byte : Rules → List ℕ → ℕ → Answer NamedByte
part_of_byte rules s i = and_then (record_holding rules s i) (part_in s i)

-- what the answer says
abbrev pub place_meaning : PartPlace → NamedByte
place_meaning p = record { which = record_meaning p.record; part = part_of p.part; place = p.span; inner = inner_of p.part }

abbrev pub answer_meaning : Result PartPlace Refused → Answer NamedByte
answer_meaning r = told place_meaning r

-- a record that lies in s, by some rules, and holds byte i
pub record HoldsByte (s : List ℕ) (i : ℕ) (l : Located) : Type 0 where
  pub lies : Lies s l
  pub from : l.start ≤ i
  pub to : i < l.start + l.size
