-- The normal form of one well-formed message: it is well formed, of the same kind and length, the same record, and its own normal form.
-- Assumes nothing.
use Prim.Native.Nat.{ℕ, suc, ◌+◌, ◌-◌, ◌≤◌, ◌<◌}
use Rattle.std.proofs.Common.{le_of_eq, sym, ap, ap₂, ◌∙◌, inr, append-nil, append_assoc, eq-eqb, leb-false, length-append, take-append-drop, take_all, take_at, take-add}
use native.Mathlib.Omega.{arith}
use Rattle.std.specs.Prelude.{◌≡◌, refl, Bool, true, false, List, [], ◌∷◌, ◌++◌, eqb, length, take, drop, replicate}
use Rattle.std.proofs.Math.ListN.{length-drop}
use Rattle.std.proofs.lemmas.List.{length-replicate}
use Rattle.std.proofs.Math.Seq.{length-take-le, take-take, drop_at}
use Rattle.mrd_bytes.specs.Bytes.{index_of, index_after}
use Rattle.mrd_numbers.specs.Little.{to_bytes, num}
use Rattle.mrd_numbers.specs.ToBytesLaws.{length-to_bytes}
use Rattle.mrd_numbers.specs.Stored.{stored}
use Rattle.mrd_format.specs.declared.rules.Layout.{Layout}
use Rattle.mrd_format.specs.declared.rules.Rules.{Rules}
use Rattle.mrd_format.specs.declared.kind.Kind.{Kind}
use Rattle.mrd_format.specs.declared.kind.Kind.TheVariants.{ConfigurationName, ConfigurationText, HeaderText, Close, Text, Acquisition, Image, Waveform}
use Rattle.mrd_logic.specs.Checks.{first}
use Rattle.mrd_logic.specs.CheckLaws.{first-passed}
use Rattle.mrd_format.specs.Message.{limit, id_at, fixed_part, name_length, own_checks, body_size, size_of}
use Rattle.mrd_format.specs.WellFormed.{WellFormed}
use Rattle.mrd_format.specs.MessageLaws.{id-kept}
use Rattle.mrd_format.specs.Segments.{total}
use Rattle.mrd_format.specs.Image.{attribute_length}
use Rattle.mrd_format.proofs.ImageLaws.{restated-long, restated-id, restated-size, restated-sound, restated-record, restated-normal, image_normal, true_length}
use Rattle.mrd_format.specs.Waveform.{cleared}
use Rattle.mrd_format.proofs.WaveformLaws.{waveform-normal, filled-long, filled-same, other-long, other-id, other-checks, other-size, other-record, other-normal}
use Rattle.mrd_format.specs.Kinds.{form_of}
use Rattle.mrd_format.specs.Content.{segments_of, part_size, extent_of, contents_of, fields_of, record_of, normal_of}
use Rattle.mrd_format.specs.Adjoining.{all_plain}
use Rattle.mrd_format.proofs.AdjoinLaws.{segments-joined, total-append}
use Rattle.mrd_format.specs.Normalised.{filled, Normalised, name_bytes}

-- a byte is found where it is put after what stood before it
index-put : (b : ℕ) (h rest : List ℕ) → index_of b (take (index_of b h) h ++ (b ∷ rest)) ≡ index_of b h
unfolding index_of index_after
index-put b [] rest = rw (eq-eqb b b refl)
index-put b (x ∷ h) rest = here (eqb x b) refl (index-put b h rest)
  where
    here : (t : Bool) → eqb x b ≡ t → index_of b (take (index_of b h) h ++ (b ∷ rest)) ≡ index_of b h →
        index_of b (take (index_of b (x ∷ h)) (x ∷ h) ++ (b ∷ rest)) ≡ index_of b (x ∷ h)
    here true e ih = rw e (rw (eq-eqb b b refl))
    here false e ih = rw e (rw e (ap suc ih))

module _ (h : List ℕ) (long : length h ≡ 1024) (short : name_length h < 1024) where
  name-taken : length (take (name_length h) h) ≡ name_length h
  name-taken = length-take-le (name_length h) h (omega arith)

  pub length-filled : length (filled h) ≡ 1024
  length-filled = simp (length-append, name-taken, length-replicate) (omega arith)

  -- the name's bytes stay
  pub take-filled : take (name_length h) (filled h) ≡ take (name_length h) h
  take-filled = take_at (take (name_length h) h) (replicate (1024 - name_length h) 0) (name_length h) name-taken

  pub name-filled : name_length (filled h) ≡ name_length h
  unfolding name_length
  name-filled =
      let some : 1024 - name_length h ≡ suc (1023 - name_length h) = omega arith in
      rw some (index-put 0 h (replicate (1023 - name_length h) 0))

-- a message that is its normal form
unchanged : (k : Kind) (m : List ℕ) → first (own_checks k (fixed_part k m)) ≡ 0 → normal_of k m ≡ m → Normalised k m
unchanged k m sound e = record { long = rw e; id = rw e; sound = rw e sound; size = rw e; same = rw e; own = rw e e }

-- check 5 passed: a zero is among them
pub name_short : (m : List ℕ) → first (own_checks ConfigurationName (name_bytes m)) ≡ 0 → name_length (name_bytes m) < 1024
unfolding own_checks
name_short m sound =
    leb-false 1024 (name_length (name_bytes m)) (first-passed (own_checks ConfigurationName (name_bytes m)) refl sound).0

-- a whole configuration name, a zero among its bytes
module _ (m : List ℕ) (whole : length m ≡ 1026) (short : name_length (name_bytes m) < 1024) where
  name-long : length (name_bytes m) ≡ 1024
  unfolding fixed_part
  name-long = length-take-le 1024 (drop 2 m) (simp length-drop (omega arith))

  two : length (take 2 m) ≡ 2
  two = length-take-le 2 m (omega arith)

  -- the id stays, and the 1,024 bytes are filled
  pub name-normal : normal_of ConfigurationName m ≡ take 2 m ++ filled (name_bytes m)
  unfolding normal_of fixed_part
  name-normal =
      let n = name_length (take 1024 (drop 2 m)) in
      rw (take-take n 1024 (drop 2 m) (omega arith), append-nil)

  -- it ends in zeros, after the name
  pub name-ends : normal_of ConfigurationName m ≡ take (2 + name_length (name_bytes m)) m ++ replicate (1024 - name_length (name_bytes m)) 0
  unfolding normal_of fixed_part
  name-ends =
      let n = name_length (take 1024 (drop 2 m)) in
      rw (take-add 2 n m, append-nil) (sym (append_assoc (take 2 m) (take n (drop 2 m)) (replicate (1024 - n) 0)))

  name-fixed : name_bytes (normal_of ConfigurationName m) ≡ filled (name_bytes m)
  unfolding fixed_part
  name-fixed =
      rw (name-normal, drop_at (take 2 m) (filled (name_bytes m)) 2 two)
      (take_all 1024 (filled (name_bytes m)) (le_of_eq (length-filled (name_bytes m) name-long short)))

  name-length : name_length (name_bytes (normal_of ConfigurationName m)) ≡ name_length (name_bytes m)
  name-length = ap name_length name-fixed ∙ name-filled (name_bytes m) name-long short

  name-id : id_at (normal_of ConfigurationName m) ≡ id_at m
  name-id = ap id_at name-normal ∙ id-kept m (filled (name_bytes m)) (omega (arith, whole))

  name-part :
      take (name_length (name_bytes (normal_of ConfigurationName m))) (drop 2 (normal_of ConfigurationName m)) ≡
      take (name_length (name_bytes m)) (drop 2 m)
  unfolding fixed_part
  name-part =
      let n = name_length (name_bytes m) in
      rw (name-length, name-normal, drop_at (take 2 m) (filled (name_bytes m)) 2 two)
      (take-filled (name_bytes m) name-long short ∙ take-take n 1024 (drop 2 m) (omega arith))

  pub name-size : length (normal_of ConfigurationName m) ≡ 1026
  name-size = rw (name-normal, length-append (take 2 m)) (omega (arith, two, length-filled (name_bytes m) name-long short))

  pub name-front : take 2 (normal_of ConfigurationName m) ≡ take 2 m
  name-front = rw name-normal (take_at (take 2 m) (filled (name_bytes m)) 2 two)

  filled-twice : filled (filled (name_bytes m)) ≡ filled (name_bytes m)
  filled-twice = rw (name-filled (name_bytes m) name-long short, take-filled (name_bytes m) name-long short)

-- its normal form is its own
name-own : (m : List ℕ) → length m ≡ 1026 → name_length (name_bytes m) < 1024 →
    normal_of ConfigurationName (normal_of ConfigurationName m) ≡ normal_of ConfigurationName m
name-own m whole short =
    name-normal (normal_of ConfigurationName m) (name-size m whole short) (rw (name-length m whole short) short) ∙
    ap₂ (λ (a b : List ℕ). a ++ b) (name-front m whole short) (ap filled (name-fixed m whole short) ∙ filled-twice m whole short) ∙
    sym (name-normal m whole short)

name-normalised : (m : List ℕ) → first (own_checks ConfigurationName (name_bytes m)) ≡ 0 → length m ≡ 1026 → name_length (name_bytes m) < 1024 →
    Normalised ConfigurationName m
unfolding own_checks size_of body_size record_of fields_of contents_of extent_of
name-normalised m sound whole short =
    record {
      long = name-size m whole short ∙ sym whole;
      id = name-id m whole short;
      sound = rw (name-length m whole short) sound;
      size = refl;
      same = rw (name-part m whole short);
      own = name-own m whole short;
    }

-- a message of its kind's size whose parts are all kept is its normal form
pub kept : (k : Kind) (m : List ℕ) → all_plain (form_of k).cells (segments_of k (fixed_part k m)) ≡ true →
    size_of k (fixed_part k m) ≡ length m → normal_of k m ≡ m
unfolding normal_of size_of body_size
kept k m p whole =
    let h = fixed_part k m in
    let size = total-append (form_of k).fixed_segments ((form_of k).body_segments h) in
    rw (segments-joined (part_size k h) (form_of k).cells m h 2 (segments_of k h) p, take_all (total (segments_of k h)) (drop 2 m) (simp length-drop (omega (arith, size, whole))))
    (take-append-drop 2 m)

-- an image's message within the limit: its normal form has the true length in its header
image_normalised : (m : List ℕ) → first (own_checks Image (fixed_part Image m)) ≡ 0 → size_of Image (fixed_part Image m) ≤ limit →
    size_of Image (fixed_part Image m) ≡ length m → Normalised Image m
unfolding size_of body_size
image_normalised m sound small whole =
    let a = attribute_length (fixed_part Image m) in
    let w = to_bytes 4 a in
    let size : length w ≡ 4 = length-to_bytes 4 a in
    let long : 208 ≤ length m = omega (arith, whole) in
    let true-number : num 4 w 0 ≡ a = true_length a (omega (arith, small)) in
    let e : normal_of Image m ≡ stored 196 w m = image_normal m whole in
    record {
      long = rw e (restated-long m w size long);
      id = rw e (restated-id m w size long);
      sound = rw e (restated-sound m w size long (inr true-number) sound);
      size = rw e (restated-size m w size long);
      same = rw e (restated-record m w size long);
      own = ap (normal_of Image) e ∙ restated-normal m w size whole long;
    }

-- a waveform's message of its kind's size: its normal form has its filler zero
waveform-normalised : (l : Layout) (m : List ℕ) → first (own_checks (Waveform l) (fixed_part (Waveform l) m)) ≡ 0 →
    size_of (Waveform l) (fixed_part (Waveform l) m) ≡ length m → Normalised (Waveform l) m
unfolding own_checks
waveform-normalised l m sound whole =
    let g = cleared l (fixed_part (Waveform l) m) in
    let size = filled-long l m whole in
    let fields = filled-same l m whole in
    let e = waveform-normal l m whole in
    record {
      long = rw e (other-long l m whole g size fields);
      id = rw e (other-id l m whole g size fields);
      sound = rw (e, other-checks l m whole g size fields) sound;
      size = rw e (other-size l m whole g size fields);
      same = rw e (other-record l m whole g size fields);
      own = ap (normal_of (Waveform l)) e ∙ other-normal l m whole g size fields;
    }

-- this holds of the normal form of every message of kind k that passes its own checks, is within the limit and has its size
normalised : (k : Kind) (m : List ℕ) → first (own_checks k (fixed_part k m)) ≡ 0 → size_of k (fixed_part k m) ≤ limit →
    size_of k (fixed_part k m) ≡ length m → Normalised k m
unfolding size_of body_size
normalised ConfigurationName m sound small whole = name-normalised m sound (sym whole) (name_short m sound)
normalised ConfigurationText m sound small whole = unchanged ConfigurationText m sound (kept ConfigurationText m refl whole)
normalised HeaderText m sound small whole = unchanged HeaderText m sound (kept HeaderText m refl whole)
normalised Close m sound small whole = unchanged Close m sound (kept Close m refl whole)
normalised Text m sound small whole = unchanged Text m sound (kept Text m refl whole)
normalised Acquisition m sound small whole = unchanged Acquisition m sound (kept Acquisition m refl whole)
normalised Image m sound small whole = image_normalised m sound small whole
normalised (Waveform l) m sound small whole = waveform-normalised l m sound whole

-- this holds of every well-formed message's normal form
pub well-normalised : {rules : Rules} (m : List ℕ) (w : WellFormed rules m) → Normalised w.kind m
well-normalised m w = normalised w.kind m w.sound w.small w.whole

-- and it is well formed, of the same kind
abbrev pub normal-well : {rules : Rules} (m : List ℕ) (w : WellFormed rules m) → WellFormed rules (normal_of w.kind m)
normal-well m w =
    let n = well-normalised m w in
    record {
      kind = w.kind;
      known = rw n.id w.known;
      sound = n.sound;
      small = rw n.size w.small;
      whole = n.size ∙ w.whole ∙ sym n.long;
      encoded = rw n.same w.encoded;
    }
