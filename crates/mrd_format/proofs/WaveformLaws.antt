-- A waveform's header and its filler, for every layout whose list of offsets is lawful: headers that agree in the fields pass the same check and make
-- the same record and normal form; the one with its filler zero is such a header.
-- Assumes nothing.
use Rattle.std.specs.Prelude.{ℕ, ◌+◌, ◌*◌, ◌≤◌, ◌≡◌, refl, length, replicate}
use Rattle.std.proofs.Common.{le_of_eq, arith, sym, ◌∙◌, length-append, take-append-drop, take-take, take_at, drop_at, drop-drop}
use Rattle.std.proofs.Math.Path.{ap, ap₂}
use mathlib.Core.List.{List, [], ◌++◌, append-nil, append_assoc}
use Rattle.std.proofs.Math.ListN.{take, drop, length-drop}
use Rattle.std.proofs.Math.Seq.{length-take-le, take_all}
use Rattle.mrd_numbers.specs.Little.{num}
use Rattle.mrd_numbers.specs.Laws.{num-take, num-drop, part-take}
use Rattle.mrd_numbers.specs.Stored.{stored, front}
use Rattle.mrd_logic.specs.Every.{Every}
use Rattle.mrd_format.specs.declared.rules.Layout.{Layout}
use Rattle.mrd_format.specs.declared.rules.Layout.TheVariants.{Packed, Aligned}
use Rattle.mrd_format.specs.declared.rules.WaveformOffsets.{WaveformOffsets}
use Rattle.mrd_format.specs.declared.kind.Kind.TheVariants.{Waveform}
use Rattle.mrd_format.specs.Elements.{ElementType, Run, width, one, element}
use Rattle.mrd_format.specs.Headers.{run_size, run_bytes, settled}
use Rattle.mrd_format.specs.Lawful.{SameFields}
use Rattle.mrd_format.proofs.HeaderLaws.{waveform-lawful, elements_lie, values_same, settled_same, settled-fields, settled-long, fields-settled, whole-settled}
use Rattle.mrd_format.specs.Parts.{Part}
use Rattle.mrd_format.specs.Waveform.{Field, version, flags, measurement-uid, scan-counter, time-stamp, number-of-samples, channels, sample-time-us, waveform-id, type_of, offset, offsets_of, front_filler, header_bytes, run, table, cells, cleared, get, checks, body_size}
use Rattle.mrd_format.specs.Message as message
use Rattle.mrd_format.specs.Message.{id_at, fixed_part, size_of}
use Rattle.mrd_format.specs.MessageLaws.{id-kept}
use Rattle.mrd_format.specs.Content.{extent_of, contents_of, fields_of, record_of, normal_of}
use Rattle.mrd_format.specs.Waveform.{offset_in}

-- an element goes by its bytes
number_of_bytes : (at : ℕ) (t : ElementType) (h : List ℕ) → element (one at t) 0 h ≡ num (width t) (run_bytes (one at t) h) 0
number_of_bytes at t h =
    let w = width t in
    let here : at + 0 ≡ at + 0 * w = omega arith in
    sym (num-take w (1 * w) (drop at h) 0 (omega arith) ∙ num-drop w at h 0 ∙ ap (num w h) here)

number_same : (l : Layout) (f : Field) (g h : List ℕ) → run_bytes (run l f) g ≡ run_bytes (run l f) h → get l f g ≡ get l f h
number_same l f g h e =
    number_of_bytes (offset l f) (type_of f) g ∙ ap (λ (b : List ℕ). num (width (type_of f)) b 0) e ∙ sym (number_of_bytes (offset l f) (type_of f) h)

-- headers that agree in the fields of the record pass the same check, and have as much data
module _ (l : Layout) (g h : List ℕ) (s : SameFields (cells l) g h) where
  pub same-checks : checks l g ≡ checks l h
  unfolding checks
  same-checks = rw (number_same l version g h s.0)

  pub same_size : body_size l g ≡ body_size l h
  unfolding body_size
  same_size = ap₂ (λ (c n : ℕ). c * n * 4) (number_same l channels g h s.1.1.1.1.1.1.0) (number_same l number-of-samples g h s.1.1.1.1.1.0)

-- a header's normal form has its filler zero, and no more is done
pub waveform-settled : (z : Part → ℕ) (l : Layout) (h : List ℕ) → settled z (cells l) h ≡ cleared l h
unfolding cleared
waveform-settled z l h = refl

module _ (l : Layout) (h : List ℕ) (long : length h ≡ header_bytes l) where
  pub cleared-long : length (cleared l h) ≡ header_bytes l
  unfolding cleared
  cleared-long = settled-long (λ (p : Part). 0) (header_bytes l) (cells l) h (waveform-lawful l) (le_of_eq (sym long))

  pub cleared-fields : SameFields (cells l) (cleared l h) h
  unfolding cleared
  cleared-fields =
      rw append-nil at (settled-fields (λ (p : Part). 0) (header_bytes l) (cells l) h [] (waveform-lawful l) (le_of_eq (sym long)))

pub offset_in_lem : (l : Layout) (f : Field) {w : WaveformOffsets} → w ≡ offsets_of l → offset_in w f ≡ offset l f
offset_in_lem l f e = ap (λ (w : WaveformOffsets). offset_in w f) e ∙ by f
  where
    by : (f : Field) → offset_in (offsets_of l) f ≡ offset l f
    by version = refl
    by flags = refl
    by measurement-uid = refl
    by scan-counter = refl
    by time-stamp = refl
    by number-of-samples = refl
    by channels = refl
    by sample-time-us = refl
    by waveform-id = refl

-- every field but the version stands so far on as the filler in front of the flags takes
pub offsets_shifted : (l : Layout) → offsets_of l ≡
    record {
      version = 0;
      flags = 2 + front_filler l;
      measurement_uid = 10 + front_filler l;
      scan_counter = 14 + front_filler l;
      time_stamp = 18 + front_filler l;
      number_of_samples = 22 + front_filler l;
      channels = 24 + front_filler l;
      sample_time_us = 26 + front_filler l;
      waveform_id = 30 + front_filler l;
    }
offsets_shifted Packed = refl
offsets_shifted Aligned = refl

-- what is read at the offset of a field is its number
pub read_there : (l : Layout) (f : Field) (h : List ℕ) {at n : ℕ} → at ≡ offset l f → n ≡ num (width (type_of f)) h at → n ≡ get l f h
read_there l f h {at} e r =
    let there : at ≡ offset l f + 0 * width (type_of f) = omega (arith, e) in
    r ∙ ap (num (width (type_of f)) h) there

-- each element lies within its header
pub elements-within : (l : Layout) → Every (λ (r : Run). r.offset + run_size r ≤ header_bytes l) (table l)
elements-within l = elements_lie 0 (header_bytes l) (table l) (waveform-lawful l)

-- a packed header has no filler: bytes o that begin with one stay as they are
pub packed_front : (o : List ℕ) → 32 ≤ length o → front (cleared Packed (take 32 o)) o ≡ o
unfolding cleared
packed_front o long =
    let size : length (take 32 o) ≡ 32 = length-take-le 32 o long in
    let header : settled (λ (p : Part). 0) (cells Packed) (take 32 o) ≡ take 32 o = whole-settled (λ (p : Part). 0) 32 (cells Packed) (take 32 o) refl refl size in
    ap (λ (b : List ℕ). front b o) header ∙ rw size (take-append-drop 32 o)

-- an aligned one has it in two places
aligned_cleared : (h : List ℕ) → cleared Aligned h ≡ take 2 h ++ (replicate 6 0 ++ (take 30 (drop 8 h) ++ replicate 2 0))
unfolding cleared
aligned_cleared h =
    let z : Part → ℕ = λ p. 0 in
    let cs = cells Aligned in
    fields-settled z 0 2 (take 2 cs) (drop 2 cs) h refl refl ∙
    ap (λ (b : List ℕ). take 2 h ++ (replicate 6 0 ++ b))
    (fields-settled z 8 38 (take 15 (drop 3 cs)) (drop 18 cs) h refl refl ∙ ap (λ (b : List ℕ). take 30 (drop 8 h) ++ b) (append-nil (replicate 2 0)))

-- zeros stored there, in bytes o that begin with an aligned header
pub aligned_stored : (o : List ℕ) → 40 ≤ length o →
    stored 38 (replicate 2 0) (stored 2 (replicate 6 0) o) ≡ front (cleared Aligned (take 40 o)) o
unfolding stored
aligned_stored o long =
    let a = take 2 o in
    let b = take 30 (drop 8 o) in
    let x = a ++ (replicate 6 0 ++ b) in
    let two : length a ≡ 2 = length-take-le 2 o (omega arith) in
    let thirty : length b ≡ 30 = length-take-le 30 (drop 8 o) (simp length-drop (omega arith)) in
    let size : length x ≡ 38 = simp (length-append, two, thirty) in
    let parts : stored 2 (replicate 6 0) o ≡ x ++ drop 38 o =
    ap (λ (c : List ℕ). a ++ (replicate 6 0 ++ c)) (sym (take-append-drop 30 (drop 8 o)) ∙ ap (λ (c : List ℕ). b ++ c) (drop-drop 30 8 o)) ∙
    simp append_assoc in
    let rest : drop 40 (x ++ drop 38 o) ≡ drop 40 o =
    sym (drop-drop 2 38 (x ++ drop 38 o)) ∙ ap (drop 2) (drop_at x (drop 38 o) 38 size) ∙ drop-drop 2 38 o in
    let header : cleared Aligned (take 40 o) ≡ a ++ (replicate 6 0 ++ (b ++ replicate 2 0)) =
    rw (take-take 2 40 o (omega arith), part-take 30 40 o 8 (omega arith)) at (aligned_cleared (take 40 o)) in
    let whole : length (cleared Aligned (take 40 o)) ≡ 40 = cleared-long Aligned (take 40 o) (length-take-le 40 o long) in
    rw (parts, take_at x (drop 38 o) 38 size, rest, whole, header) (simp append_assoc)

-- a waveform's message of its kind's size
module _ (l : Layout) (m : List ℕ) (whole : size_of (Waveform l) (fixed_part (Waveform l) m) ≡ length m) where
  abbrev n : ℕ
  n = header_bytes l

  abbrev h : List ℕ
  h = fixed_part (Waveform l) m

  least : 2 + n ≤ length m
  unfolding size_of
  least = omega (arith, whole)

  header-long : length h ≡ n
  unfolding fixed_part
  header-long = length-take-le n (drop 2 m) (simp length-drop (omega (arith, least)))

  two : length (take 2 m) ≡ 2
  two = length-take-le 2 m (omega (arith, least))

  -- its normal form has its filler zero
  pub waveform-normal : normal_of (Waveform l) m ≡ take 2 m ++ (cleared l h ++ drop (2 + n) m)
  unfolding normal_of size_of message.body_size fixed_part cleared
  waveform-normal =
      let body : take (body_size l h) (drop (2 + n) m) ++ [] ≡ drop (2 + n) m =
      append-nil _ ∙ take_all (body_size l h) (drop (2 + n) m) (simp length-drop (omega (arith, whole))) in
      ap (λ (b : List ℕ). take 2 m ++ (cleared l (take n (drop 2 m)) ++ b)) body

  -- with another header g that has the same fields
  module _ (g : List ℕ) (long : length g ≡ n) (same : SameFields (cells l) g h) where
    abbrev pub other : List ℕ
    other = take 2 m ++ (g ++ drop (2 + n) m)

    pub other-long : length other ≡ length m
    other-long = simp (length-append, length-drop) (omega (arith, two, long, least))

    pub other-id : id_at other ≡ id_at m
    other-id = id-kept m (g ++ drop (2 + n) m) (omega (arith, least))

    other-fixed : fixed_part (Waveform l) other ≡ g
    unfolding fixed_part
    other-fixed = rw (drop_at (take 2 m) (g ++ drop (2 + n) m) 2 two) (take_at g (drop (2 + n) m) n long)

    other-rest : drop (2 + n) other ≡ drop (2 + n) m
    other-rest =
        sym (drop-drop n 2 other) ∙ ap (drop n) (drop_at (take 2 m) (g ++ drop (2 + n) m) 2 two) ∙ drop_at g (drop (2 + n) m) n long

    fields : SameFields (cells l) (fixed_part (Waveform l) other) h
    fields = rw other-fixed same

    pub other-checks : checks l (fixed_part (Waveform l) other) ≡ checks l h
    other-checks = same-checks l (fixed_part (Waveform l) other) h fields

    data-size : body_size l (fixed_part (Waveform l) other) ≡ body_size l h
    data-size = same_size l (fixed_part (Waveform l) other) h fields

    pub other-size : size_of (Waveform l) (fixed_part (Waveform l) other) ≡ size_of (Waveform l) h
    unfolding size_of message.body_size
    other-size = rw data-size

    -- the fields of the record stay, and so do its data
    pub other-record : record_of (Waveform l) other ≡ record_of (Waveform l) m
    unfolding record_of fields_of contents_of extent_of
    other-record =
        let equal = values_same (cells l) (fixed_part (Waveform l) other) h fields in
        let body : take (body_size l (fixed_part (Waveform l) other)) (drop (2 + n) other) ≡ take (body_size l h) (drop (2 + n) m) =
        rw (data-size, other-rest) in
        λ i. record {
          kind = Waveform l;
          fields = equal i;
          parts = record { name = []; text = []; trajectory = []; samples = []; attributes = []; pixels = []; waveform = body i };
        }

-- and so does its normal form
pub other-normal : (l : Layout) (m : List ℕ) (whole : size_of (Waveform l) (fixed_part (Waveform l) m) ≡ length m)
    (g : List ℕ) (long : length g ≡ header_bytes l) (same : SameFields (cells l) g (fixed_part (Waveform l) m)) →
    normal_of (Waveform l) (other l m whole g long same) ≡ normal_of (Waveform l) m
unfolding cleared
other-normal l m whole g long same =
    let o = other l m whole g long same in
    let again : size_of (Waveform l) (fixed_part (Waveform l) o) ≡ length o =
    other-size l m whole g long same ∙ whole ∙ sym (other-long l m whole g long same) in
    let front : take 2 o ≡ take 2 m = take_at (take 2 m) _ 2 (two l m whole) in
    let header : cleared l (fixed_part (Waveform l) o) ≡ cleared l (fixed_part (Waveform l) m) =
    settled_same (λ (p : Part). 0) (cells l) (fixed_part (Waveform l) o) (fixed_part (Waveform l) m) (fields l m whole g long same) in
    waveform-normal l o again ∙ rw (front, header, other-rest l m whole g long same) (sym (waveform-normal l m whole))

-- a waveform's message in normal form has such a header: the one with its filler zero
module _ (l : Layout) (m : List ℕ) (whole : size_of (Waveform l) (fixed_part (Waveform l) m) ≡ length m) where
  pub filled-long : length (cleared l (fixed_part (Waveform l) m)) ≡ header_bytes l
  filled-long = cleared-long l (fixed_part (Waveform l) m) (header-long l m whole)

  pub filled-same : SameFields (cells l) (cleared l (fixed_part (Waveform l) m)) (fixed_part (Waveform l) m)
  filled-same = cleared-fields l (fixed_part (Waveform l) m) (header-long l m whole)
