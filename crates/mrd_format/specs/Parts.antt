-- The parts of a message, by name; where a part lies; and the bytes of each part that a record has.
-- Assumes nothing.
use Rattle.std.specs.Prelude.{ℕ, Bool, ◌&&◌, List, [], ◌∷◌, eqb, length, get_or, take, drop}

-- an id, 'a u32 length L' or 'a u64 attribute length A', a fixed header, a name, the bytes after its first zero, a text, attributes, a
-- trajectory, the samples of all channels, pixels, waveform data, and one channel's samples
pub data Part : Type 0 where
  id count header name filler text attributes trajectory samples pixels waveform : Part
  channel : ℕ → Part

abbrev pub tag : Part → ℕ
tag id = 0
tag count = 1
tag header = 2
tag name = 3
tag filler = 4
tag text = 5
tag attributes = 6
tag trajectory = 7
tag samples = 8
tag pixels = 9
tag waveform = 10
tag (channel c) = 11

-- a channel's number
abbrev pub channel_of : Part → ℕ
channel_of id = 0
channel_of count = 0
channel_of header = 0
channel_of name = 0
channel_of filler = 0
channel_of text = 0
channel_of attributes = 0
channel_of trajectory = 0
channel_of samples = 0
channel_of pixels = 0
channel_of waveform = 0
channel_of (channel c) = c

abbrev pub is_channel : Part → Bool
is_channel p = eqb (tag p) 11

-- whether two names are of one part
abbrev pub same : Part → Part → Bool
same p q = eqb (tag p) (tag q) && eqb (channel_of p) (channel_of q)

-- where a part lies in its message: its first byte, counted from the id's, and its size
pub record Extent : Type 0 where
  pub offset : ℕ
  pub size : ℕ

abbrev pub extent : ℕ → ℕ → Extent
extent at n = record { offset = at; size = n }

-- where a part lies, or that the message lacks it
pub data Reach : Type 0 where
  lies : Extent → Reach
  lacks : Reach

-- the bytes of the message m there
abbrev pub bytes_at : List ℕ → Extent → List ℕ
bytes_at m e = take e.size (drop e.offset m)

-- a part that is lacking has none
abbrev pub bytes_in : List ℕ → Reach → List ℕ
bytes_in m (lies e) = bytes_at m e
bytes_in m lacks = []

-- the bytes of each part that a record may have: 'a name's bytes before the zero, a text's bytes, .. the attributes, trajectory, channel
-- samples, pixels or waveform data'. Those that its kind lacks are empty
pub record Parts : Type 0 where
  pub name : List ℕ
  pub text : List ℕ
  pub trajectory : List ℕ
  pub samples : List ℕ
  pub attributes : List ℕ
  pub pixels : List ℕ
  pub waveform : List ℕ

-- one of seven, by the tag of its part; z for a part that no record has
abbrev pub by_part : {A : Type 0} → A → (name text trajectory samples attributes pixels waveform : A) → Part → A
by_part z n t j s a p w q = get_or (z ∷ z ∷ z ∷ n ∷ z ∷ t ∷ a ∷ j ∷ s ∷ p ∷ w ∷ []) (tag q) z

-- the part of this name
abbrev pub part_in : Parts → Part → List ℕ
part_in ps p = by_part [] ps.name ps.text ps.trajectory ps.samples ps.attributes ps.pixels ps.waveform p

-- those parts, each by its name
abbrev pub parts_by : (Part → List ℕ) → Parts
parts_by f =
    record {
      name = f name;
      text = f text;
      trajectory = f trajectory;
      samples = f samples;
      attributes = f attributes;
      pixels = f pixels;
      waveform = f waveform;
    }

-- the names of those parts
abbrev pub record_parts : List Part
record_parts = name ∷ text ∷ trajectory ∷ samples ∷ attributes ∷ pixels ∷ waveform ∷ []

-- what a message is made of beside its id: 'the fixed header's bytes .. and the variable parts'
pub record Contents : Type 0 where
  pub header : List ℕ
  pub parts : Parts

-- how long each of its parts is
abbrev pub part_length : Contents → Part → ℕ
part_length c p = length (part_in c.parts p)

abbrev pub contents : (header name text trajectory samples attributes pixels waveform : List ℕ) → Contents
contents h n t j s a p w =
    record {
      header = h;
      parts = record { name = n; text = t; trajectory = j; samples = s; attributes = a; pixels = p; waveform = w };
    }
