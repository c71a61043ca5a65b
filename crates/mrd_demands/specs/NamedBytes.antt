-- The part of a record that a byte of the stream belongs to, and that there is one and no other.
-- Assumes nothing.
use Rattle.std.specs.Prelude.{ℕ, ◌+◌, ◌-◌, ◌≡◌, true, List, map, Option}
use Rattle.mrd_logic.specs.Answer.{answered}
use Rattle.mrd_logic.specs.Joined.{joined}
use Rattle.mrd_logic.specs.Lists.{Nth}
use Rattle.mrd_format.specs.declared.rules.Rules.{Rules}
use Rattle.mrd_format.specs.Parts as part
use Rattle.mrd_format.specs.Parts.{same, Extent, extent, bytes_at}
use Rattle.mrd_format.specs.Segments.{PlacedPart}
use Rattle.mrd_format.specs.Holding.{holds}
use Rattle.mrd_format.specs.Adjoining.{Adjoins, places_of}
use Rattle.mrd_element.specs.declared.byte.ElementPlace.{ElementPlace}
use Rattle.mrd_element.specs.Pieces.{header_byte_of}
use Rattle.mrd_stream.specs.Places.{Located, place}
use Rattle.mrd_cut.specs.CutPlaces.{part_at}
use Rattle.mrd_views.specs.Views.{span}
use Rattle.mrd_holding.specs.Held.{in_header}
use Rattle.mrd_part_at.specs.PartAt.{parts_at, NamedByte, part_of_byte}
use Rattle.mrd_demands.specs.RecordViews.{ViewOfPart}

-- where a part of the record at l lies in the stream
abbrev pub stream_place : Located → PlacedPart → Extent
stream_place l q = extent (l.start + q.place.offset) q.place.size

-- byte i of s lies in part j of record n: the record lies at l, and the part is q
pub record Belongs (rules : Rules) (s : List ℕ) (i n j : ℕ) (l : Located) (q : PlacedPart) : Type 0 where
  pub which : place rules s n ≡ answered l
  pub part : Nth (parts_at s l) j q
  pub inside : holds (stream_place l q) i ≡ true

-- what is told of a byte is record l, and of its parts q, where that lies
pub record Tells (b : NamedByte) (l : Located) (q : PlacedPart) : Type 0 where
  pub which : b.which ≡ l
  pub part : b.part ≡ q.part
  pub place : b.place ≡ span (l.start + q.place.offset) q.place.size

-- byte i of s belongs to one part of one record, and to no other; that is what is told of it, of a header's byte with the element that it belongs to,
-- or that it is filler; and a view by the part's name is that part
pub record NamedOnce (rules : Rules) (s : List ℕ) (i : ℕ) : Type 0 where
  pub n : ℕ
  pub j : ℕ
  pub l : Located
  pub q : PlacedPart
  pub belongs : Belongs rules s i n j l q
  pub numbered : l.number ≡ n
  pub only : (m k : ℕ) (x : Located) (y : PlacedPart) → Belongs rules s i m k x y → (m ≡ n) × (k ≡ j)
  pub byte : NamedByte
  pub answer : part_of_byte rules s i ≡ answered byte
  pub told : Tells byte l q
  pub element : same q.part part.header ≡ true → (b : Option ElementPlace) × ((header_byte_of l.kind (i - l.start - q.place.offset) ≡ answered b) × (byte.inner ≡ in_header b))
  pub shown : ViewOfPart rules s n l q

-- the parts of the record at l: they adjoin from its first byte to its last, and joined they are its message
pub record PartsInOrder (s : List ℕ) (l : Located) : Type 0 where
  pub adjoin : Adjoins 0 l.size (places_of (parts_at s l))
  pub message : joined (map (bytes_at (part_at s l)) (places_of (parts_at s l))) ≡ part_at s l
