-- The waveform header (1026) in its layouts, the check that it must pass, and the size it gives. All of it goes by the list of offsets.
-- Assumes nothing.
use Rattle.std.specs.Prelude.{ℕ, ◌*◌, not, List, [], ◌∷◌, map, eqb}
use Rattle.mrd_format.specs.Elements.{ElementType, Run, one, element, u16, u32, u64, f32}
use Rattle.mrd_format.specs.Headers.{Cell, spaced, settled}
use Rattle.mrd_logic.specs.Checks.{Check, ◌when◌}
use Rattle.mrd_format.specs.declared.rules.Layout.{Layout}
use Rattle.mrd_format.specs.declared.rules.Layout.TheVariants.{Packed, Aligned}
use Rattle.mrd_format.specs.declared.rules.WaveformOffsets.{WaveformOffsets}
use Rattle.mrd_format.specs.Parts.{Part, waveform}
use Rattle.mrd_format.specs.Segments.{Segment, fixed, sized, Form}

pub data Field : Type 0 where
  version flags measurement-uid scan-counter time-stamp number-of-samples channels sample-time-us waveform-id : Field

abbrev pub type_of : Field → ElementType
type_of version = u16
type_of flags = u64
type_of measurement-uid = u32
type_of scan-counter = u32
type_of time-stamp = u32
type_of number-of-samples = u16
type_of channels = u16
type_of sample-time-us = f32
type_of waveform-id = u16

-- where each starts: document 01's 'Waveform header, packed for this build', and request E3's 'waveform headers of 40 bytes'
abbrev pub offset : Layout → Field → ℕ
offset Packed version = 0
offset Packed flags = 2
offset Packed measurement-uid = 10
offset Packed scan-counter = 14
offset Packed time-stamp = 18
offset Packed number-of-samples = 22
offset Packed channels = 24
offset Packed sample-time-us = 26
offset Packed waveform-id = 30
offset Aligned version = 0
offset Aligned flags = 8
offset Aligned measurement-uid = 16
offset Aligned scan-counter = 20
offset Aligned time-stamp = 24
offset Aligned number-of-samples = 28
offset Aligned channels = 30
offset Aligned sample-time-us = 32
offset Aligned waveform-id = 36

-- the same as the code has them
abbrev pub offsets_of : Layout → WaveformOffsets
offsets_of l =
    record {
      version = offset l version;
      flags = offset l flags;
      measurement_uid = offset l measurement-uid;
      scan_counter = offset l scan-counter;
      time_stamp = offset l time-stamp;
      number_of_samples = offset l number-of-samples;
      channels = offset l channels;
      sample_time_us = offset l sample-time-us;
      waveform_id = offset l waveform-id;
    }

-- the filler between the version and the flags
abbrev pub front_filler : Layout → ℕ
front_filler Packed = 0
front_filler Aligned = 6

abbrev pub header_bytes : Layout → ℕ
header_bytes Packed = 32
header_bytes Aligned = 40

-- the header, in the order of its bytes
abbrev pub header : List Field
header =
    version ∷ flags ∷ measurement-uid ∷ scan-counter ∷ time-stamp ∷ number-of-samples ∷ channels ∷ sample-time-us ∷ waveform-id ∷ []

abbrev pub run : Layout → Field → Run
run l f = one (offset l f) (type_of f)

abbrev pub table : Layout → List Run
table l = map (λ (f : Field). run l f) header

-- every one of them is a field of the record; what they leave out 'carries nothing'
abbrev pub cells : Layout → List Cell
cells l = spaced 0 (header_bytes l) (table l)

-- a header with its filler zero
unfoldable pub cleared : Layout → List ℕ → List ℕ
cleared l h = settled (λ (p : Part). 0) (cells l) h

-- the number in a field
abbrev pub get : Layout → Field → List ℕ → ℕ
get l f h = element (run l f) 0 h

-- check 4
unfoldable pub checks : Layout → List ℕ → List Check
checks l h = (4 when not (eqb (get l version h) 1)) ∷ []

-- what follows the header: 'channels x samples x 4'
unfoldable pub body_size : Layout → List ℕ → ℕ
body_size l h = get l channels h * get l number-of-samples h * 4

abbrev pub body : Layout → List ℕ → List Segment
body l h = sized waveform (body_size l h) ∷ []

-- 'samples and channels for a waveform'
unfoldable pub numbers : Layout → List ℕ → List ℕ
numbers l h = get l number-of-samples h ∷ get l channels h ∷ []

-- the offset of a field among those that the code has
abbrev pub offset_in : WaveformOffsets → Field → ℕ
offset_in w version = w.version
offset_in w flags = w.flags
offset_in w measurement-uid = w.measurement_uid
offset_in w scan-counter = w.scan_counter
offset_in w time-stamp = w.time_stamp
offset_in w number-of-samples = w.number_of_samples
offset_in w channels = w.channels
offset_in w sample-time-us = w.sample_time_us
offset_in w waveform-id = w.waveform_id

abbrev pub form : Layout → Form
form l =
    record {
      cells = cells l;
      fixed_segments = fixed (header_bytes l) ∷ [];
      body_segments = body l;
      checks = checks l;
      numbers = numbers l;
      counter = get l scan-counter;
      uid = get l measurement-uid;
    }
