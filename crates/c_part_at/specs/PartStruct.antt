-- What a byte belongs to as the C struct: the record, the part by its number, where it lies, and of a header's byte the element.
-- Assumes nothing.
use Rattle.std.specs.Prelude.{ℕ, Some, None}
use Rattle.mrd_logic.specs.Answer.{Answer, answered, stream, number}
use Rattle.mrd_format.specs.Parts as parts
use Rattle.mrd_format.specs.Parts.{Part, channel_of}
use Rattle.mrd_views.specs.declared.views.Span.{Span}
pub use Rattle.mrd_holding.specs.Held.{in_header}
use Rattle.mrd_holding.specs.Held.{Inner, whole}
use Rattle.mrd_part_at.specs.PartAt.{NamedByte}
use Rattle.c_place.specs.declared.placed.Placed.{Placed}
use Rattle.c_place.specs.PlacedStruct.{refused_place, c_record}
use Rattle.c_part_at.specs.declared.answer.PartAnswer.{PartAnswer}

-- a header's number
abbrev pub header_number : ℕ
header_number = 10

-- the parts by number: those of a view from 1 on, and then those that no view shows. The samples of all channels are told channel by channel
abbrev pub part_number : Part → ℕ
part_number parts.name = 1
part_number parts.text = 2
part_number parts.attributes = 3
part_number parts.trajectory = 4
part_number (parts.channel c) = 5
part_number parts.pixels = 6
part_number parts.waveform = 7
part_number parts.id = 8
part_number parts.count = 9
part_number parts.header = header_number
part_number parts.filler = 11
part_number parts.samples = 0

-- the element that a header's byte belongs to; 0 for filler and for any other part
abbrev pub element_offset : Inner → ℕ
element_offset whole = 0
element_offset (in_header (Some e)) = e.offset
element_offset (in_header None) = 0

abbrev pub element_size : Inner → ℕ
element_size whole = 0
element_size (in_header (Some e)) = e.size
element_size (in_header None) = 0

-- a part of the record at a place
abbrev pub part_as : Placed → (part channel : ℕ) → Span → (offset size : ℕ) → PartAnswer
part_as p q c x o z =
    record {
      refusal = 0;
      «record» = 0;
      byte = 0;
      place = p;
      part = q;
      channel = c;
      start = x.start;
      length = x.length;
      element_offset = o;
      element_size = z;
    }

-- an answer without a part
abbrev pub refused_part : (refusal r byte : ℕ) → PartAnswer
refused_part f r b =
    record {
      refusal = f;
      «record» = r;
      byte = b;
      place = refused_place f r b;
      part = 0;
      channel = 0;
      start = 0;
      length = 0;
      element_offset = 0;
      element_size = 0;
    }

abbrev pub c_named : NamedByte → PartAnswer
c_named b = part_as (c_record b.which) (part_number b.part) (channel_of b.part) b.place (element_offset b.inner) (element_size b.inner)

abbrev pub c_part : Answer NamedByte → PartAnswer
c_part (answered b) = c_named b
c_part (stream f r b) = refused_part f r b
c_part (number n) = refused_part n 0 0
