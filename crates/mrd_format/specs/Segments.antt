-- What a message is built of after its id, as a list of segments: from it follow its size, where each of its parts lies, and its bytes.
-- Assumes nothing.
use Rattle.std.specs.Prelude.{ℕ, zero, suc, ◌+◌, ◌-◌, ◌*◌, Bool, true, false, ◌&&◌, List, [], ◌∷◌, ◌++◌, ltb, length, replicate}
use Rattle.mrd_bytes.specs.Bytes.{index_of}
use Rattle.mrd_numbers.specs.Little.{to_bytes}
use Rattle.mrd_logic.specs.Checks.{Check}
use Rattle.mrd_format.specs.Headers.{Cell}
use Rattle.mrd_format.specs.Parts.{Part, count, header, name, filler, samples, channel, same, is_channel, channel_of, Extent, extent, Reach, lies, lacks, Contents, part_in}

pub data Segment : Type 0 where
  -- a fixed header of so many bytes
  fixed : ℕ → Segment
  -- the length of a part, in so many bytes
  counted : ℕ → Part → Segment
  -- a name, filled up to so many bytes
  padded : ℕ → Segment
  -- a part of so many bytes
  sized : Part → ℕ → Segment
  -- the samples of so many channels, of so many bytes each
  channels : ℕ → ℕ → Segment

abbrev pub size_in : Segment → ℕ
size_in (fixed n) = n
size_in (counted w p) = w
size_in (padded n) = n
size_in (sized p n) = n
size_in (channels c n) = c * n

-- the bytes that segments take
abbrev pub total : List Segment → ℕ
total [] = 0
total (s ∷ []) = size_in s
total (s ∷ (t ∷ ss)) = size_in s + total (t ∷ ss)

-- 'a configuration name is the bytes before the first zero', of a fixed part h
unfoldable pub name_length : List ℕ → ℕ
name_length h = index_of 0 h

-- a part and where it lies
pub record PlacedPart : Type 0 where
  pub part : Part
  pub place : Extent

abbrev pub placed_part : Part → ℕ → ℕ → PlacedPart
placed_part p at n = record { part = p; place = extent at n }

-- n channels' samples from channel c on: 'channel c starts c x samples x 8 bytes into the data'
abbrev pub channels_from : ℕ → ℕ → ℕ → ℕ → List PlacedPart
channels_from zero c at z = []
channels_from (suc n) c at z = placed_part (channel c) at z ∷ channels_from n (suc c) (at + z) z

-- the parts of a segment that begins at `at`, in a message with the fixed part h
abbrev pub segment_parts : List ℕ → ℕ → Segment → List PlacedPart
segment_parts h at (fixed n) = placed_part header at n ∷ []
segment_parts h at (counted w p) = placed_part count at w ∷ []
segment_parts h at (padded n) = placed_part name at (name_length h) ∷ placed_part filler (at + name_length h) (n - name_length h) ∷ []
segment_parts h at (sized p n) = placed_part p at n ∷ []
segment_parts h at (channels c n) = channels_from c 0 at n

-- and of segments one after the other
abbrev pub segments_parts : List ℕ → ℕ → List Segment → List PlacedPart
segments_parts h at [] = []
segments_parts h at (s ∷ []) = segment_parts h at s
segments_parts h at (s ∷ (t ∷ ss)) = segment_parts h at s ++ segments_parts h (at + size_in s) (t ∷ ss)

-- the first of two places where a part may lie
abbrev pub or_else : Reach → Reach → Reach
or_else (lies e) r = lies e
or_else lacks r = r

-- a place, where the test says that the part is there
abbrev pub reach_if : Bool → ℕ → ℕ → Reach
reach_if true at n = lies (extent at n)
reach_if false at n = lacks

-- where a part lies in a segment that begins at `at`
abbrev pub reach_in : Part → List ℕ → ℕ → Segment → Reach
reach_in p h at (fixed n) = reach_if (same p header) at n
reach_in p h at (counted w q) = reach_if (same p count) at w
reach_in p h at (padded n) =
    or_else (reach_if (same p name) at (name_length h)) (reach_if (same p filler) (at + name_length h) (n - name_length h))
reach_in p h at (sized q n) = reach_if (same p q) at n
reach_in p h at (channels c n) =
    or_else (reach_if (same p samples) at (c * n)) (reach_if (is_channel p && ltb (channel_of p) c) (at + channel_of p * n) n)

-- and in segments one after the other
abbrev pub reach_from : Part → List ℕ → ℕ → List Segment → Reach
reach_from p h at [] = lacks
reach_from p h at (s ∷ []) = reach_in p h at s
reach_from p h at (s ∷ (t ∷ ss)) = or_else (reach_in p h at s) (reach_from p h (at + size_in s) (t ∷ ss))

-- the bytes that lie there
abbrev pub reach_size : Reach → ℕ
reach_size (lies e) = e.size
reach_size lacks = 0

-- the bytes of a segment, where the message is made of c and z says how long its parts are: a length is that of its part, and a name is filled up
-- with zeros
abbrev pub segment_bytes : (Part → ℕ) → Contents → Segment → List ℕ
segment_bytes z c (fixed n) = c.header
segment_bytes z c (counted w p) = to_bytes w (z p)
segment_bytes z c (padded n) = c.parts.name ++ replicate (n - length c.parts.name) 0
segment_bytes z c (sized p n) = part_in c.parts p
segment_bytes z c (channels k n) = c.parts.samples

-- and of segments one after the other
abbrev pub segments_bytes : (Part → ℕ) → Contents → List Segment → List ℕ
segments_bytes z c [] = []
segments_bytes z c (s ∷ []) = segment_bytes z c s
segments_bytes z c (s ∷ (t ∷ ss)) = segment_bytes z c s ++ segments_bytes z c (t ∷ ss)

-- the form of a message: what a row of the paper's table says of what follows the id
pub record Form : Type 0 where
  -- its header, in the order of its bytes
  pub cells : List Cell
  -- the fixed part, and what then follows where the fixed part is h
  pub fixed_segments : List Segment
  pub body_segments : List ℕ → List Segment
  -- checks 4 to 9 'in number order where they apply', of the fixed part
  pub checks : List ℕ → List Check
  -- the 'kind's own numbers', in the paper's order, by the fixed part
  pub numbers : List ℕ → List ℕ
  -- 'scan counter (u32; 0 where the kind has none)'
  pub counter : List ℕ → ℕ
  -- 'measurement uid (u32, 0 where the kind has none)'
  pub uid : List ℕ → ℕ
