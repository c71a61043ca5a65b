-- Which part of a message a byte belongs to, and of a header's byte which element: from the parts of the message in order, and the pieces of its header.
-- Assumes nothing.
use Rattle.std.specs.Prelude.{ℕ, ◌+◌, ◌-◌, ◌≤◌, ◌<◌, List, Option}
use Rattle.mrd_logic.specs.Answer.{Answer, answered, and_then}
use Rattle.mrd_logic.specs.Choice.{pick}
use Rattle.mrd_format.specs.declared.kind.Kind.{Kind}
use Rattle.mrd_format.specs.Kinds.{header_size}
use Rattle.mrd_format.specs.Parts.{Part, id, count, header, filler, same, Extent, extent}
use Rattle.mrd_format.specs.Segments.{PlacedPart}
use Rattle.mrd_format.specs.Content.{placed_parts}
use Rattle.mrd_format.specs.Holding.{holding}
use Rattle.mrd_element.specs.declared.byte.ElementPlace.{ElementPlace}
use Rattle.mrd_element.specs.Pieces.{header_byte_of}
use Rattle.mrd_parts.specs.Sought.{part_meaning, Sized}
use Rattle.mrd_holding.specs.declared.holding.MessagePart.{MessagePart}
use Rattle.mrd_holding.specs.declared.holding.MessagePart.TheVariants.{Id, Length, Header, NameRest, Shown}
use Rattle.mrd_holding.specs.declared.holding.HeldPart.{HeldPart}

-- of a header's byte, the element that it belongs to, or none; another part is told whole
pub data Inner : Type 0 where
  whole : Inner
  in_header : Option ElementPlace → Inner

-- what is told of a byte: the part that it belongs to, and where that part lies in the message
pub record Held : Type 0 where
  pub part : Part
  pub place : Extent
  pub inner : Inner

abbrev pub told_as : Part → ℕ → ℕ → Inner → Held
told_as p o z i = record { part = p; place = extent o z; inner = i }

-- byte `at` of a message of kind k, where it lies in the part q
abbrev pub told : Kind → ℕ → PlacedPart → Answer Held
told k at q =
    pick (same q.part header)
    (and_then (header_byte_of k (at - q.place.offset)) (λ b. answered (record { part = q.part; place = q.place; inner = in_header b })))
    (answered (record { part = q.part; place = q.place; inner = whole }))

-- the part that holds byte `at` of a message of kind k with the fixed part h
unfoldable pub part_holding : Kind → List ℕ → ℕ → Answer Held
part_holding k h at = and_then (holding (λ (q : PlacedPart). q.place) (placed_parts k h) at) (told k at)

-- what the answered part says
abbrev pub part_of : MessagePart → Part
part_of Id = id
part_of Length = count
part_of (Header b) = header
part_of NameRest = filler
part_of (Shown p) = part_meaning p

abbrev pub inner_of : MessagePart → Inner
inner_of Id = whole
inner_of Length = whole
inner_of (Header b) = in_header b
inner_of NameRest = whole
inner_of (Shown p) = whole

abbrev pub held_meaning : HeldPart → Held
held_meaning r = told_as (part_of r.part) r.extent.offset r.extent.size (inner_of r.part)

-- what is asked once the byte is known to lie past id and header
pub record Past (k : Kind) (h : List ℕ) (z at : ℕ) : Type 0 where
  pub sized : Sized k h z
  pub low : 2 + header_size k ≤ at
  pub high : at < z
