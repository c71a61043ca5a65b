-- Putting a message into a part of the output, field by field: o is that part, and x, y and z are the parts of it given on, as they came back.
-- Assumes nothing.
use Rattle.std.specs.Prelude.{ℕ, ◌+◌, ◌-◌, ◌^◌, ◌≤◌, ◌<◌, ◌≡◌, refl, List, ◌++◌, take, drop, replicate}
use native.Mathlib.Omega.{arith}
use Rattle.std.proofs.Common.{sym, ap, ap₂, ◌∙◌, append-nil, append_assoc, take_at, drop_at}
use Rattle.std.proofs.Math.ListN.{length, length-append}
use Rattle.std.proofs.lemmas.List.{length-replicate}
use Rattle.std.proofs.Math.Seq.{take-length}
use Rattle.mrd_numbers.specs.Little.{to_bytes}
use Rattle.mrd_numbers.specs.ToBytesLaws.{length-to_bytes}
use Rattle.mrd_numbers.specs.Stored.{front, part_from, returned, part-from, stored-part, stored-front, front-first, front-next, front-two}
use Rattle.mrd_format.specs.declared.rules.Layout.{Layout}
use Rattle.mrd_format.specs.declared.kind.Kind.{Kind}
use Rattle.mrd_format.specs.declared.kind.Kind.TheVariants.{ConfigurationName, Acquisition, Image, Waveform}
use Rattle.mrd_format.specs.Acquisition as acquisition
use Rattle.mrd_format.specs.Waveform.{header_bytes, cleared}
use Rattle.mrd_format.specs.Kinds.{header_size}
use Rattle.mrd_format.specs.Parts.{Contents, part_length}
use Rattle.mrd_format.proofs.HeaderLaws.{whole-settled, acquisition-lawful}
use Rattle.mrd_format.proofs.WaveformLaws.{cleared-long}
use Rattle.mrd_format.proofs.ImageLaws.{image_settled}
use Rattle.mrd_format.specs.Content.{fixed_of, body_of, bytes_after_id}
use Rattle.mrd_put.specs.Room.{Ready}

-- what a copy of all of a leaves in r
abbrev copied : List ℕ → List ℕ → List ℕ
copied a r = take (length a) a ++ drop (length a) r

copied-whole : (a r : List ℕ) → copied a r ≡ front a r
copied-whole a r = rw take-length

-- two parts
pub joined-put : (a b o x y : List ℕ) → length a + length b ≤ length o → x ≡ copied a (part_from 0 o) →
    y ≡ copied b (part_from (length a) (returned 0 o x)) → returned (length a) (returned 0 o x) y ≡ front (a ++ b) o
joined-put a b o x y h p q =
    front-two (length a) (length b) o a b x y refl refl (omega arith) (p ∙ copied-whole a _) (q ∙ copied-whole b _)

-- a part, and then two joined
pub headed_put : (a b o x y : List ℕ) → length a + length b ≤ length o → x ≡ copied a (part_from 0 o) →
    y ≡ front b (part_from (length a) (returned 0 o x)) → returned (length a) (returned 0 o x) y ≡ front (a ++ b) o
headed_put a b o x y h p q = front-two (length a) (length b) o a b x y refl refl (omega arith) (p ∙ copied-whole a _) q

-- a name and its zeros
pub name-put : (a o x y : List ℕ) → (length a ≤ 1024) × (1024 ≤ length o) → x ≡ copied a (part_from 0 o) →
    y ≡ replicate (1024 - length a) 0 ++ drop (1024 - length a) (part_from (length a) (returned 0 o x)) →
    returned (length a) (returned 0 o x) y ≡ front (a ++ replicate (1024 - length a) 0) o
name-put a o x y h p q =
    front-two (length a) (1024 - length a) o a (replicate (1024 - length a) 0) x y refl (length-replicate (1024 - length a) 0) (omega arith)
    (p ∙ copied-whole a _) q

-- a text's length and the text
pub text-put : (a o x y : List ℕ) → 4 + length a ≤ length o → x ≡ to_bytes 4 (length a) ++ drop 4 (part_from 0 o) →
    y ≡ copied a (part_from 4 (returned 0 o x)) → returned 4 (returned 0 o x) y ≡ front (to_bytes 4 (length a) ++ a) o
text-put a o x y h p q =
    front-two 4 (length a) o (to_bytes 4 (length a)) a x y (length-to_bytes 4 (length a)) refl (omega arith) p (q ∙ copied-whole a _)

-- the record's fields a of an image's header, and its attributes' length n in four bytes and in eight
abbrev pub image_fixed : List ℕ → ℕ → List ℕ
image_fixed a n = (a ++ to_bytes 4 n) ++ to_bytes 8 n

module _ (a : List ℕ) (n : ℕ) (e : length a ≡ 194) where
  header-long : length (a ++ to_bytes 4 n) ≡ 198
  header-long = length-append a (to_bytes 4 n) ∙ ap₂ (λ (i j : ℕ). i + j) e (length-to_bytes 4 n)

  fixed-long : length (image_fixed a n) ≡ 206
  fixed-long = length-append (a ++ to_bytes 4 n) (to_bytes 8 n) ∙ ap₂ (λ (i j : ℕ). i + j) header-long (length-to_bytes 8 n)

  pub header-put : (o x y z : List ℕ) → 206 ≤ length o → x ≡ copied a (part_from 0 o) →
      y ≡ to_bytes 4 n ++ drop 4 (part_from 194 (returned 0 o x)) →
      z ≡ to_bytes 8 n ++ drop 8 (part_from 198 (returned 194 (returned 0 o x) y)) →
      returned 198 (returned 194 (returned 0 o x) y) z ≡ front (image_fixed a n) o
  header-put o x y z room p q r =
      let two : returned 194 (returned 0 o x) y ≡ (a ++ to_bytes 4 n) ++ drop 198 o =
      rw header-long at (front-two 194 4 o a (to_bytes 4 n) x y e (length-to_bytes 4 n) (omega arith) (rw e at (p ∙ copied-whole a _)) q) in
      rw fixed-long
      (front-next 198 8 o (returned 194 (returned 0 o x) y) (a ++ to_bytes 4 n) (to_bytes 8 n) z two header-long (omega arith) (length-to_bytes 8 n) r)

  -- and the two parts b
  pub image-put : (b o x y : List ℕ) → 206 + length b ≤ length o → x ≡ front (image_fixed a n) (part_from 0 o) →
      y ≡ front b (part_from 206 (returned 0 o x)) → returned 206 (returned 0 o x) y ≡ front (image_fixed a n ++ b) o
  image-put b o x y room p q = front-two 206 (length b) o (image_fixed a n) b x y fixed-long refl (omega arith) (rw fixed-long at p) q

-- a waveform's header h and its data w, and then the header's filler made zero
pub waveform-put : (l : Layout) (h w o x y : List ℕ) → length h ≡ header_bytes l → length h + length w ≤ length o →
    x ≡ front (h ++ w) (part_from 0 o) →
    y ≡ front (cleared l (take (header_bytes l) (part_from 0 (returned 0 o x)))) (part_from 0 (returned 0 o x)) →
    returned 0 (returned 0 o x) y ≡ front (cleared l h ++ w) o
waveform-put l h w o x y e room p q =
    let n = length (h ++ w) in
    let rest = drop n o in
    let put : returned 0 o x ≡ h ++ (w ++ rest) = front-first n o (h ++ w) x refl p ∙ append_assoc h w rest in
    let header : take (header_bytes l) (h ++ (w ++ rest)) ≡ h = take_at h (w ++ rest) (header_bytes l) e in
    let long : length (cleared l h) ≡ header_bytes l = cleared-long l h e in
    let same : length (cleared l h ++ w) ≡ n = simp (length-append, long, e) in
    let clear : y ≡ front (cleared l h) (part_from 0 (returned 0 o x)) =
    q ∙ rw (part-from 0 (returned 0 o x), put, header) in
    let made : front (cleared l h) (returned 0 o x) ≡ front (cleared l h ++ w) o =
    rw (put, long, drop_at h (w ++ rest) (header_bytes l) e, same) (sym (append_assoc (cleared l h) w rest)) in
    stored-part 0 (returned 0 o x) (cleared l h) y clear ∙ stored-front (cleared l h) (returned 0 o x) ∙ made

-- a name's message ends with its fixed part
pub content-name : (c : Contents) → bytes_after_id ConfigurationName c ≡ c.parts.name ++ replicate (1024 - length c.parts.name) 0
unfolding bytes_after_id fixed_of body_of
content-name c = append-nil _

-- a header without a length or filler in it is put as it is
content-acquisition : (c : Contents) → length c.header ≡ 340 → bytes_after_id Acquisition c ≡ c.header ++ (c.parts.trajectory ++ c.parts.samples)
unfolding bytes_after_id fixed_of body_of
content-acquisition c e =
    ap (λ (h : List ℕ). h ++ (c.parts.trajectory ++ c.parts.samples))
    (whole-settled (part_length c) 340 acquisition.cells c.header refl acquisition-lawful e)

-- a waveform's with its filler zero
content-waveform : (l : Layout) (c : Contents) → bytes_after_id (Waveform l) c ≡ cleared l c.header ++ c.parts.waveform
unfolding bytes_after_id fixed_of body_of cleared
content-waveform l c = refl

-- an image's header is put with its attributes' length
pub content_image : (c : Contents) →
    let n = length c.parts.attributes in
    bytes_after_id Image c ≡ ((take 194 c.header ++ to_bytes 4 n) ++ to_bytes 8 n) ++ (c.parts.attributes ++ c.parts.pixels)
unfolding bytes_after_id fixed_of body_of
content_image c =
    ap (λ (h : List ℕ). (h ++ to_bytes 8 (length c.parts.attributes)) ++ (c.parts.attributes ++ c.parts.pixels))
    (image_settled (part_length c) c.header)

-- what follows the id fits in the part o: so do the parts that it is made of
module _ (k : Kind) (c : Contents) (o : List ℕ) (ready : Ready k c) (room : length (bytes_after_id k c) ≤ length o) where
  -- by its kind
  content-room : {j : Kind} → k ≡ j → length (bytes_after_id j c) ≤ length o
  content-room e = rw e at room

  pub name-room : k ≡ ConfigurationName → (length c.parts.name ≤ 1024) × (1024 ≤ length o)
  unfolding fixed_of
  name-room e =
      let fixed : length (fixed_of ConfigurationName c) ≡ 1024 = rw e at ready.fixed in
      let whole : length c.parts.name + (1024 - length c.parts.name) ≡ 1024 = simp (length-append, length-replicate) at fixed in
      let fits = simp (length-append, length-replicate) at (rw content-name at (content-room e)) in
      (omega arith, omega (arith, fits))

  pub text-room : bytes_after_id k c ≡ to_bytes 4 (length c.parts.text) ++ c.parts.text →
      (length c.parts.text < 2 ^ 32) × (4 + length c.parts.text ≤ length o)
  text-room made = (ready.text, rw (made, length-append, length-to_bytes) at room)

  -- a header that has its kind's length
  header-whole : {j : Kind} → k ≡ j → length c.header ≡ header_size j
  header-whole e = rw e at ready.header

  pub acquisition-made : k ≡ Acquisition → bytes_after_id Acquisition c ≡ c.header ++ (c.parts.trajectory ++ c.parts.samples)
  acquisition-made e = content-acquisition c (header-whole e)

  pub acquisition-room : k ≡ Acquisition → length c.header + (length c.parts.trajectory + length c.parts.samples) ≤ length o
  acquisition-room e = simp length-append at (rw (acquisition-made e) at (content-room e))

  pub image-room : k ≡ Image → (length c.header ≡ 198) × (length c.parts.attributes < 2 ^ 32) ×
      (206 + (length c.parts.attributes + length c.parts.pixels) ≤ length o)
  unfolding bytes_after_id body_of
  image-room e =
      let fits : length (fixed_of Image c) + length (c.parts.attributes ++ c.parts.pixels) ≤ length o = rw length-append at (content-room e) in
      (header-whole e, ready.attributes, rw (rw e at ready.fixed, length-append) at fits)

  pub waveform-made : {l : Layout} → k ≡ Waveform l → bytes_after_id k c ≡ cleared l c.header ++ c.parts.waveform
  waveform-made {l} e = rw e (content-waveform l c)

  pub waveform-room : {l : Layout} → k ≡ Waveform l → (length c.header ≡ header_bytes l) × (length c.header + length c.parts.waveform ≤ length o)
  waveform-room {l} e =
      let whole : length c.header ≡ header_bytes l = header-whole e in
      let long = cleared-long l c.header whole in
      (whole, omega (arith, whole, long, simp length-append at (rw (waveform-made e) at room)))
