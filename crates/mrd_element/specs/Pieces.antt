-- What a fixed header is made of, byte for byte: its elements, and filler.
-- Assumes nothing.
use Rattle.std.specs.Prelude.{ℕ, ◌+◌, List, [], ◌∷◌, ◌++◌, map, Option, Some, None}
use Rattle.mrd_logic.specs.Answer.{Answer, answered, and_then}
use Rattle.mrd_format.specs.declared.kind.Kind.{Kind}
use Rattle.mrd_format.specs.Elements.{Run, width}
use Rattle.mrd_format.specs.Headers.{Cell, field, length_of, gap, run_size}
use Rattle.mrd_format.specs.Parts.{Extent, extent}
use Rattle.mrd_format.specs.Kinds.{form_of}
use Rattle.mrd_format.specs.Holding.{holding, evenly}
use Rattle.mrd_element.specs.Element.{Start, starts, none}
use Rattle.mrd_element.specs.declared.byte.ElementPlace.{ElementPlace}

-- an element or filler, with its place in the header
pub data Piece : Type 0 where
  element filler : Extent → Piece

abbrev pub place_of : Piece → Extent
place_of (element e) = e
place_of (filler e) = e

-- the elements of a run. Every element of an array is an element of its own
abbrev pub run_pieces : Run → List Piece
run_pieces r = map element (evenly r.count r.offset (width r.type))

-- the pieces of cells that begin at `at`
abbrev pub pieces_from : ℕ → List Cell → List Piece
pieces_from at [] = []
pieces_from at (field r ∷ cs) = run_pieces r ++ pieces_from (at + run_size r) cs
pieces_from at (length_of p r ∷ cs) = run_pieces r ++ pieces_from (at + run_size r) cs
pieces_from at (gap n ∷ cs) = filler (extent at n) ∷ pieces_from (at + n) cs

-- the pieces of a kind's header
abbrev pub header_pieces : Kind → List Piece
header_pieces k = pieces_from 0 (form_of k).cells

-- the bytes of the element that starts, if any
abbrev pub start_width : Start → ℕ
start_width (starts e) = width e
start_width none = 0

-- what is told of a header's byte: the element that it belongs to, or none
abbrev pub header_byte : Piece → Option ElementPlace
header_byte (element e) = Some (record { offset = e.offset; size = e.size })
header_byte (filler e) = None

-- which element byte `at` of a kind's header belongs to, or that it is filler
unfoldable pub header_byte_of : Kind → ℕ → Answer (Option ElementPlace)
header_byte_of k at = and_then (holding place_of (header_pieces k) at) (λ p. answered (header_byte p))
