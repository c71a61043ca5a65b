-- The acquisition header (1008), the checks that it must pass, the sizes it gives, and what its channel mask says.
-- Assumes nothing.
use Rattle.std.specs.Prelude.{ℕ, ◌+◌, ◌*◌, Bool, true, not, ◌&&◌, List, [], ◌∷◌, map, eqb, ltb}
use Rattle.std.specs.Int.Count.{ones}
use Rattle.mrd_format.specs.Elements.{Run, one, many, element, elements, u16, u32, u64, i32, f32}
use Rattle.mrd_format.specs.Headers.{Cell, field, runs}
use Rattle.mrd_logic.specs.Choice.{pick}
use Rattle.mrd_logic.specs.Checks.{Check, ◌when◌}
use Rattle.mrd_format.specs.declared.mask.Mask.{Mask}
use Rattle.mrd_format.specs.declared.mask.Mask.TheVariants.{NotStated, Agrees, Differs}
use Rattle.mrd_format.specs.Parts.{trajectory}
use Rattle.mrd_format.specs.Segments.{Segment, fixed, sized, channels, total, Form}

pub data Field : Type 0 where
  version flags measurement-uid scan-counter acquisition-time-stamp physiology-time-stamp : Field
  number-of-samples available-channels active-channels channel-mask : Field
  discard-pre discard-post center-sample encoding-space-ref trajectory-dimensions : Field
  sample-time-us position read-dir phase-dir slice-dir patient-table-position : Field
  counters user-int user-float : Field

-- 'Acquisition header, offsets'
abbrev pub layout : Field → Run
layout version = one 0 u16
layout flags = one 2 u64
layout measurement-uid = one 10 u32
layout scan-counter = one 14 u32
layout acquisition-time-stamp = one 18 u32
layout physiology-time-stamp = many 22 3 u32
layout number-of-samples = one 34 u16
layout available-channels = one 36 u16
layout active-channels = one 38 u16
layout channel-mask = many 40 16 u64
layout discard-pre = one 168 u16
layout discard-post = one 170 u16
layout center-sample = one 172 u16
layout encoding-space-ref = one 174 u16
layout trajectory-dimensions = one 176 u16
layout sample-time-us = one 178 f32
layout position = many 182 3 f32
layout read-dir = many 194 3 f32
layout phase-dir = many 206 3 f32
layout slice-dir = many 218 3 f32
layout patient-table-position = many 230 3 f32
layout counters = many 242 17 u16
layout user-int = many 276 8 i32
layout user-float = many 308 8 f32

-- the header, in the order of its bytes
abbrev pub header : List Field
header =
    version ∷ flags ∷ measurement-uid ∷ scan-counter ∷ acquisition-time-stamp ∷ physiology-time-stamp ∷
    number-of-samples ∷ available-channels ∷ active-channels ∷ channel-mask ∷
    discard-pre ∷ discard-post ∷ center-sample ∷ encoding-space-ref ∷ trajectory-dimensions ∷
    sample-time-us ∷ position ∷ read-dir ∷ phase-dir ∷ slice-dir ∷ patient-table-position ∷
    counters ∷ user-int ∷ user-float ∷ []

-- every one of them is a field of the record
abbrev pub cells : List Cell
cells = map (λ (f : Field). field (layout f)) header

abbrev pub table : List Run
table = runs cells

-- the number in a field that has one element
abbrev pub get : Field → List ℕ → ℕ
get f h = element (layout f) 0 h

-- the count of ones in a list of words
abbrev pub ones_of : List ℕ → ℕ
ones_of [] = 0
ones_of (w ∷ ws) = ones w + ones_of ws

-- whether every word is zero
abbrev pub all_zero : List ℕ → Bool
all_zero [] = true
all_zero (w ∷ ws) = eqb w 0 && all_zero ws

-- 'The mask check answers one of three: not stated (all zero), otherwise agrees or differs, with the counted ones': of the mask's words, where
-- so many channels are active
abbrev pub mask_of : List ℕ → ℕ → Mask
mask_of ws active = pick (all_zero ws) NotStated (pick (eqb (ones_of ws) active) (Agrees (ones_of ws)) (Differs (ones_of ws)))

-- 'the mask check' of a header; it is none of the checks that refuse
unfoldable pub mask_answer : List ℕ → Mask
mask_answer h = mask_of (elements (layout channel-mask) h) (get active-channels h)

-- the number of each answer; 0 stands for a kind that has no mask
abbrev pub mask_number : Mask → ℕ
mask_number NotStated = 1
mask_number (Agrees n) = 2
mask_number (Differs n) = 3

-- 'the counted ones': of a mask that is all zero there are none
abbrev pub mask_ones : Mask → ℕ
mask_ones NotStated = 0
mask_ones (Agrees n) = n
mask_ones (Differs n) = n

-- 'active above available'
abbrev pub channels_exceed : List ℕ → Bool
channels_exceed h = ltb (get available-channels h) (get active-channels h)

-- 'discard pre plus discard post above number of samples'
abbrev pub discards_exceed : List ℕ → Bool
discards_exceed h = ltb (get number-of-samples h) (get discard-pre h + get discard-post h)

-- checks 4, 6 and 7
unfoldable pub checks : List ℕ → List Check
checks h = (4 when not (eqb (get version h) 1)) ∷ (6 when channels_exceed h) ∷ (7 when discards_exceed h) ∷ []

-- 'samples x dimensions x 4'
unfoldable pub trajectory_size : List ℕ → ℕ
trajectory_size h = get number-of-samples h * get trajectory-dimensions h * 4

-- one channel's samples: 'samples x 8'
unfoldable pub channel_size : List ℕ → ℕ
channel_size h = get number-of-samples h * 8

-- what follows the header: the trajectory, then 'active channels x samples x 8'
abbrev pub body : List ℕ → List Segment
body h = sized trajectory (trajectory_size h) ∷ channels (get active-channels h) (channel_size h) ∷ []

unfoldable pub body_size : List ℕ → ℕ
body_size h = total (body h)

-- the 'seventeen counters'
unfoldable pub counters_of : List ℕ → List ℕ
counters_of h = elements (layout counters) h

-- 'samples, active channels and dimensions for an acquisition', and its mask's answer
unfoldable pub numbers : List ℕ → List ℕ
numbers h =
    get number-of-samples h ∷ get active-channels h ∷ get trajectory-dimensions h ∷
    mask_number (mask_answer h) ∷ mask_ones (mask_answer h) ∷ []

abbrev pub form : Form
form =
    record {
      cells = cells;
      fixed_segments = fixed 340 ∷ [];
      body_segments = body;
      checks = checks;
      numbers = numbers;
      counter = get scan-counter;
      uid = get measurement-uid;
    }
