-- What a message holds: its parts, the record that it is, where compared, its normal form, and the bytes that a record is written as.
-- All of it follows from the segments of its kind.
-- Assumes nothing.
use Rattle.std.specs.Prelude.{ℕ, List, ◌∷◌, ◌++◌, map, replicate}
use Rattle.mrd_logic.specs.Choice.{pick}
use Rattle.mrd_logic.specs.Joined.{joined}
use Rattle.mrd_numbers.specs.Little.{to_bytes}
use Rattle.mrd_format.specs.declared.kind.Kind.{Kind}
use Rattle.mrd_format.specs.Headers.{Cell, values, settled, written}
use Rattle.mrd_format.specs.Parts.{Part, id, header, filler, same, Reach, bytes_at, bytes_in, Parts, parts_by, Contents, part_length}
use Rattle.mrd_format.specs.Segments.{Segment, PlacedPart, placed_part, segments_parts, or_else, reach_if, reach_from, reach_size, segments_bytes}
use Rattle.mrd_format.specs.Kinds.{id_of, form_of}
use Rattle.mrd_format.specs.Message.{fixed_part}

-- what follows the id of a message of kind k with the fixed part h
abbrev pub segments_of : Kind → List ℕ → List Segment
segments_of k h = (form_of k).fixed_segments ++ (form_of k).body_segments h

-- all its parts, in order
abbrev pub placed_parts : Kind → List ℕ → List PlacedPart
placed_parts k h = placed_part id 0 2 ∷ segments_parts h 2 (segments_of k h)

-- where a part of it lies
unfoldable pub extent_of : Part → Kind → List ℕ → Reach
extent_of p k h = or_else (reach_if (same p id) 0 2) (reach_from p h 2 (segments_of k h))

-- how long it is there
abbrev pub part_size : Kind → List ℕ → Part → ℕ
part_size k h p = reach_size (extent_of p k h)

-- the bytes of a part of the message m of kind k
abbrev pub part_of : Kind → List ℕ → Part → List ℕ
part_of k m p = bytes_in m (extent_of p k (fixed_part k m))

-- what it is made of
unfoldable pub contents_of : Kind → List ℕ → Contents
contents_of k m = record { header = part_of k m header; parts = parts_by (part_of k m) }

-- 'A record, where compared, is its kind and whole content': 'every field of a fixed header', floats by their bits, and the bytes of each part
pub record Record : Type 0 where
  pub kind : Kind
  pub fields : List ℕ
  pub parts : Parts

-- the numbers in the fields of the header at the front of h that belong to the record
unfoldable pub fields_of : Kind → List ℕ → List ℕ
fields_of k h = values (form_of k).cells h

-- the record that the message m of kind k is, from its bytes alone
unfoldable pub record_of : Kind → List ℕ → Record
record_of k m = record { kind = k; fields = fields_of k (fixed_part k m); parts = (contents_of k m).parts }

-- the bytes of a part in normal form: 'in each configuration name's 1,024 bytes, those after the first zero made zero', and in a header built of cs
-- the true lengths, which z says
abbrev pub normal_part : (Part → ℕ) → List Cell → List ℕ → PlacedPart → List ℕ
normal_part z cs m p =
    pick (same p.part filler) (replicate p.place.size 0)
    (pick (same p.part header) (settled z cs (bytes_at m p.place)) (bytes_at m p.place))

-- a message in normal form
unfoldable pub normal_of : Kind → List ℕ → List ℕ
normal_of k m =
    let h = fixed_part k m in
    joined (map (normal_part (part_size k h) (form_of k).cells m) (placed_parts k h))

-- c with the true lengths in its header, where z says how long its parts are
abbrev pub settled_by : Kind → (Part → ℕ) → Contents → Contents
settled_by k z c = record { header = settled z (form_of k).cells c.header; parts = c.parts }

-- the fixed part of a message of kind k that is made of c, where z says how long its parts are: 'a text's length and an image's 8-byte length' are
-- worked out, and a name is filled 'up with zeros'. It goes by z and no part's bytes but a name's, so that lengths are enough to check it
abbrev pub fixed_by : Kind → (Part → ℕ) → Contents → List ℕ
fixed_by k z c = segments_bytes z (settled_by k z c) (form_of k).fixed_segments

-- the message of kind k that is made of c: its fixed part, what follows it, and both after the id
unfoldable pub fixed_of : Kind → Contents → List ℕ
fixed_of k c = fixed_by k (part_length c) c

unfoldable pub body_of : Kind → Contents → List ℕ
body_of k c = segments_bytes (part_length c) (settled_by k (part_length c) c) ((form_of k).body_segments (fixed_of k c))

unfoldable pub bytes_after_id : Kind → Contents → List ℕ
bytes_after_id k c = fixed_of k c ++ body_of k c

unfoldable pub message_of : Kind → Contents → List ℕ
message_of k c = to_bytes 2 (id_of k) ++ bytes_after_id k c

-- the record of what a message is made of
unfoldable pub contents_record : Kind → Contents → Record
contents_record k c = record { kind = k; fields = fields_of k c.header; parts = c.parts }

-- the bytes that a record is written as: its header's fields one after the other, and its parts
unfoldable pub bytes_of : Record → List ℕ
bytes_of r =
    message_of r.kind (record { header = written (form_of r.kind).cells r.fields; parts = r.parts })

-- 'scan counter (u32; 0 where the kind has none)', of a fixed part h
unfoldable pub counter_of : Kind → List ℕ → ℕ
counter_of k h = (form_of k).counter h

-- 'measurement uid', 0 where the kind has none
unfoldable pub uid_of : Kind → List ℕ → ℕ
uid_of k h = (form_of k).uid h
