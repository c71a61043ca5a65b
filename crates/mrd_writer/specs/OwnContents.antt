-- The other way: the header and the parts of a well-formed message, given to the writer, are not refused, and make that message's normal form.
-- Assumes nothing.
use Rattle.std.specs.Prelude.{ℕ, ◌+◌, ◌*◌, ◌≤◌, ◌<◌, ◌≡◌, refl, Bool, true, false, List, [], ◌∷◌, ◌++◌, eqb, length, take, drop}
use Rattle.std.proofs.Common.{le_of_eq, arith, sym, ap, ap₂, subst, ◌∙◌, le-ltb, take-take}
use Rattle.mrd_bytes.specs.Bytes.{index_of, index_after}
use Rattle.mrd_numbers.specs.Little.{to_bytes, Bytes}
use Rattle.mrd_logic.specs.Every.{Every, every_split}
use Rattle.mrd_logic.specs.Checks.{Check, ◌when◌, first, Passed}
use Rattle.mrd_logic.specs.CheckLaws.{first-passed}
use Rattle.mrd_format.specs.OwnCheckLaws.{own-numbered}
use Rattle.mrd_format.specs.declared.rules.Layout.{Layout}
use Rattle.mrd_format.specs.declared.rules.Rules.{Rules}
use Rattle.mrd_format.specs.declared.kind.Kind.{Kind}
use Rattle.mrd_format.specs.declared.kind.Kind.TheVariants.{ConfigurationName, ConfigurationText, HeaderText, Close, Text, Acquisition, Image, Waveform}
use Rattle.mrd_format.specs.Segments.{name_length}
use Rattle.mrd_format.specs.Texts.{text_length}
use Rattle.mrd_format.specs.Message.{limit, fixed_part, own_checks, body_size, size_of}
use Rattle.mrd_format.specs.WellFormed.{WellFormed}
use Rattle.mrd_format.specs.Content.{extent_of, contents_of, record_of, normal_of, message_of}
use Rattle.mrd_format.specs.Profiles.{texts_in, Encoded}
use Rattle.mrd_format.specs.Normalised.{name_bytes}
use Rattle.mrd_format.proofs.NormalLaws.{name_short}
use Rattle.mrd_format.proofs.Rewritten.{part_length_lem, rewritten_normal}
use Rattle.mrd_format.specs.Parts.{Part, part_length}
use Rattle.mrd_format.specs.Headers.{settled}
use Rattle.mrd_format.proofs.HeaderLaws.{whole-settled, acquisition-lawful}
use Rattle.mrd_format.proofs.WaveformLaws.{waveform-settled, cleared-fields, same-checks}
use Rattle.mrd_format.specs.Image.{Agree}
use Rattle.mrd_format.proofs.ImageLaws.{agree-checks, agree-pixels, agree-header, made-agrees}
use Rattle.mrd_format.specs.Acquisition as acquisition
use Rattle.mrd_format.specs.Image as image
use Rattle.mrd_format.specs.Waveform as waveform
use Rattle.mrd_write_checks.specs.WriteChecks.{name_unfit, given_fixed, of_writer, given_own_checks, given_size, part_lengths, lengths_of, due_lengths}
use Rattle.mrd_write_checks.specs.NameLaws.{name-passes}
use Rattle.mrd_writer.specs.Sound.{Sound}

-- bytes up to the first zero hold none
index-taken : (h : List ℕ) → length (take (index_of 0 h) h) ≤ index_of 0 (take (index_of 0 h) h)
unfolding index_of index_after
index-taken [] = omega arith
index-taken (x ∷ h) = by-test (eqb x 0) refl (index-taken h)
  where
    by-test : (t : Bool) → eqb x 0 ≡ t → length (take (index_of 0 h) h) ≤ index_of 0 (take (index_of 0 h) h) →
        length (take (index_after t (index_of 0 h)) (x ∷ h)) ≤ index_of 0 (take (index_after t (index_of 0 h)) (x ∷ h))
    by-test true e ih = omega arith
    by-test false e ih = rw e (omega arith)

-- a message's name
name-fit : (m : List ℕ) → length m ≡ 1026 → name_length (name_bytes m) < 1024 → name_unfit (take (name_length (name_bytes m)) (drop 2 m)) ≡ false
unfolding name_unfit name_length fixed_part
name-fit m whole short =
    let h = take 1024 (drop 2 m) in
    let n = index_of 0 h in
    let same : take n h ≡ take n (drop 2 m) = take-take n 1024 (drop 2 m) (omega arith) in
    let long : length (take n (drop 2 m)) ≤ 1023 = omega (arith, part_length_lem m 2 n (omega arith)) in
    let free : length (take n (drop 2 m)) ≤ index_of 0 (take n (drop 2 m)) = rw same at (index-taken h) in
    rw (le-ltb 1023 (length (take n (drop 2 m))) long, le-ltb (index_of 0 (take n (drop 2 m))) (length (take n (drop 2 m))) free)

-- an image, of its kind's size: a is its attributes' length, and p its pixels' size
module _ (m : List ℕ) (a p : ℕ) (whole : 208 + (a + p) ≡ length m) where
  abbrev header : List ℕ
  header = take 198 (drop 2 m)

  header-long : length header ≡ 198
  header-long = part_length_lem m 2 198 (omega arith)

  -- the header alone agrees with the fixed part
  header-agrees : Agree header (take 206 (drop 2 m))
  header-agrees = rw (take-take 198 206 (drop 2 m) (omega arith)) at (agree-header (take 206 (drop 2 m)))

  pixels-due : p ≡ image.pixels_size (take 206 (drop 2 m)) → length (take p (drop (208 + a) m)) ≡ image.pixels_size header
  pixels-due pixels =
      part_length_lem m (208 + a) p (omega arith) ∙ pixels ∙ sym (agree-pixels header (take 206 (drop 2 m)) header-agrees)

  -- what is made of it passes the checks of its header
  header-passes : (z : Part → ℕ) (x : List ℕ) → Every Passed (image.header_checks (take 206 (drop 2 m))) →
      Every Passed (image.header_checks (settled z image.cells header ++ x))
  header-passes z x passed =
      rw (agree-checks _ header (made-agrees z header x header-long), agree-checks header (take 206 (drop 2 m)) header-agrees) passed

-- what is made of a waveform's header passes the check of that header
waveform-passes : (l : Layout) (z : Part → ℕ) (h : List ℕ) → length h ≡ waveform.header_bytes l → Every Passed (waveform.checks l h) →
    Every Passed (of_writer (waveform.checks l (settled z (waveform.cells l) h)))
unfolding waveform.checks
waveform-passes l z h long passed =
    subst (λ (cs : List Check). Every Passed (of_writer cs))
    (sym (ap (waveform.checks l) (waveform-settled z l h) ∙ same-checks l _ h (cleared-fields l h long))) passed

-- a fixed part with no fault passes each of its checks
passes : (k : Kind) (f : List ℕ) → first (own_checks k f) ≡ 0 → Every Passed (own_checks k f)
passes k f = first-passed (own_checks k f) (own-numbered k f)

-- what every well-formed message is made of passes every check
own-sound : (k : Kind) (m : List ℕ) → first (own_checks k (fixed_part k m)) ≡ 0 → size_of k (fixed_part k m) ≤ limit →
    size_of k (fixed_part k m) ≡ length m → Sound k (contents_of k m)
unfolding contents_of extent_of fixed_part given_fixed given_own_checks given_size due_lengths own_checks acquisition.checks image.checks image.header_checks waveform.checks size_of body_size
own-sound ConfigurationName m sound small whole =
    let fit = name-fit m (sym whole) (name_short m sound) in
    let fixed = name-passes [] _ (lengths_of (contents_of ConfigurationName m)) fit in
    record { header = refl; own = (fit, passes ConfigurationName _ fixed); small = omega arith; lengths = refl }
own-sound ConfigurationText m sound small whole =
    record { header = refl; own = (refl, tt); small = omega (arith, part_length_lem m 6 (text_length (take 4 (drop 2 m))) (le_of_eq whole)); lengths = refl }
own-sound HeaderText m sound small whole =
    record { header = refl; own = (refl, tt); small = omega (arith, part_length_lem m 6 (text_length (take 4 (drop 2 m))) (le_of_eq whole)); lengths = refl }
own-sound Close m sound small whole = record { header = refl; own = (refl, tt); small = small; lengths = refl }
own-sound Text m sound small whole =
    record { header = refl; own = (refl, tt); small = omega (arith, part_length_lem m 6 (text_length (take 4 (drop 2 m))) (le_of_eq whole)); lengths = refl }
own-sound Acquisition m sound small whole =
    let f = take 340 (drop 2 m) in
    let long = part_length_lem m 2 340 (omega (arith, whole)) in
    let t = acquisition.trajectory_size f in
    let z = acquisition.get acquisition.active-channels f * acquisition.channel_size f in
    let trajectory = part_length_lem m 342 t (omega (arith, whole)) in
    let samples = part_length_lem m (342 + t) z (omega (arith, whole)) in
    record {
      header = long;
      own = (refl, rw (whole-settled _ 340 acquisition.cells f refl acquisition-lawful long) (passes Acquisition f sound));
      small = omega (arith, small);
      lengths = ap₂ (λ (j s : ℕ). part_lengths 0 0 j s 0 0 0) trajectory samples;
    }
own-sound Image m sound small whole =
    let f = take 206 (drop 2 m) in
    let a = image.attribute_length f in
    let p = image.pixels_size f in
    let passed = (every_split Passed (image.header_checks f) ((9 when image.lengths_differ f) ∷ []) (passes Image f sound)).0 in
    let pixels = pixels-due m a p whole refl in
    record {
      header = header-long m a p whole;
      own = (refl, header-passes m a p whole (part_length (contents_of Image m)) (to_bytes 8 (length (take a (drop 208 m)))) passed);
      small = omega (arith, whole, small, part_length_lem m 208 a (omega (arith, whole)), pixels, part_length_lem m (208 + a) p (omega (arith, whole)));
      lengths = ap (λ (n : ℕ). part_lengths 0 0 0 0 (length (take a (drop 208 m))) n 0) pixels;
    }
own-sound (Waveform l) m sound small whole =
    let n = waveform.header_bytes l in
    let f = take n (drop 2 m) in
    let long = part_length_lem m 2 n (omega (arith, whole)) in
    record {
      header = long;
      own = (refl, waveform-passes l (part_length (contents_of (Waveform l) m)) f long (passes (Waveform l) f sound));
      small = omega (arith, small);
      lengths = ap (λ (n : ℕ). part_lengths 0 0 0 0 0 0 n) (part_length_lem m (2 + n) (waveform.body_size l f) (le_of_eq whole));
    }

-- writing the header and the parts of a well-formed message is not refused, and gives its normal form
pub own-contents : {rules : Rules} (m : List ℕ) (w : WellFormed rules m) → Bytes m →
    Sound w.kind (contents_of w.kind m) ×
    (Encoded rules.profile (texts_in (contents_of w.kind m).parts) × (message_of w.kind (contents_of w.kind m) ≡ normal_of w.kind m))
unfolding record_of
own-contents m w bytes = (own-sound w.kind m w.sound w.small w.whole, (w.encoded, rewritten_normal m bytes w))
