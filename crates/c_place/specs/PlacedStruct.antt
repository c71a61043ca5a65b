-- A record's place and kind as the C struct: the numbers of its kind in the members for them.
-- Assumes nothing.
use Rattle.std.specs.Prelude.{ℕ, get_or}
use Rattle.mrd_logic.specs.Answer.{Answer, answered, stream, number}
use Rattle.mrd_format.specs.declared.kind.Kind.{Kind}
use Rattle.mrd_format.specs.declared.kind.Kind.TheVariants.{ConfigurationName, ConfigurationText, HeaderText, Close, Text, Acquisition, Image, Waveform}
use Rattle.mrd_format.specs.Kinds.{id_of}
use Rattle.mrd_stream.specs.declared.answer.Place.{Place}
use Rattle.mrd_stream.specs.Places.{Located}
use Rattle.c_place.specs.declared.placed.Placed.{Placed}

-- a record at a place, with its id and the numbers of its kind
abbrev pub place_as : Place → (id length attributes samples channels dimensions x y z type mask ones : ℕ) → Placed
place_as p id n a s c d x y z t m o =
    record {
      refusal = 0;
      «record» = 0;
      byte = 0;
      number = p.number;
      start = p.start;
      size = p.size;
      length = n;
      attribute_length = a;
      id = id;
      number_of_samples = s;
      channels = c;
      trajectory_dimensions = d;
      matrix_size_x = x;
      matrix_size_y = y;
      matrix_size_z = z;
      data_type = t;
      mask = m;
      mask_ones = o;
    }

-- an answer without a record
abbrev pub refused_place : (refusal r byte : ℕ) → Placed
refused_place f r b =
    record {
      refusal = f;
      «record» = r;
      byte = b;
      number = 0;
      start = 0;
      size = 0;
      length = 0;
      attribute_length = 0;
      id = 0;
      number_of_samples = 0;
      channels = 0;
      trajectory_dimensions = 0;
      matrix_size_x = 0;
      matrix_size_y = 0;
      matrix_size_z = 0;
      data_type = 0;
      mask = 0;
      mask_ones = 0;
    }

-- the same of a record that the rules give
abbrev pub record_with : Located → (length attributes samples channels dimensions x y z type mask ones : ℕ) → Placed
record_with l = place_as (record { number = l.number; start = l.start; size = l.size }) (id_of l.kind)

-- number i of the kind's own, in the paper's order
abbrev pub own : Located → ℕ → ℕ
own l i = get_or l.numbers i 0

-- the members that each kind's own numbers stand in
abbrev pub record_as : Kind → Located → Placed
record_as ConfigurationName l = record_with l (own l 0) 0 0 0 0 0 0 0 0 0 0
record_as ConfigurationText l = record_with l (own l 0) 0 0 0 0 0 0 0 0 0 0
record_as HeaderText l = record_with l (own l 0) 0 0 0 0 0 0 0 0 0 0
record_as Close l = record_with l 0 0 0 0 0 0 0 0 0 0 0
record_as Text l = record_with l (own l 0) 0 0 0 0 0 0 0 0 0 0
record_as Acquisition l = record_with l 0 0 (own l 0) (own l 1) (own l 2) 0 0 0 0 (own l 3) (own l 4)
record_as Image l = record_with l 0 (own l 5) 0 (own l 3) 0 (own l 0) (own l 1) (own l 2) (own l 4) 0 0
record_as (Waveform layout) l = record_with l 0 0 (own l 0) (own l 1) 0 0 0 0 0 0 0

abbrev pub c_record : Located → Placed
c_record l = record_as l.kind l

abbrev pub c_placed : Answer Located → Placed
c_placed (answered l) = c_record l
c_placed (stream f r b) = refused_place f r b
c_placed (number n) = refused_place n 0 0
