-- The message that is made of contents, read again: where each segment's bytes are as many as the segment says, each part lies where the
-- segments say, and has the bytes that were given.
-- Assumes nothing.
use Rattle.std.specs.Prelude.{ℕ, ◌+◌, ◌-◌, ◌*◌, ◌≡◌, Bool, true, false, ◌&&◌, ltb, length, replicate}
use Rattle.std.proofs.Common.{le_of_eq, arith, sym, ◌∙◌, true≢false, eqb-true, length-append, drop_at}
use Rattle.std.proofs.Math.Path.{refl, ap}
use Rattle.std.proofs.Math.Logic.{⊎_elim}
use mathlib.Core.List.{List, [], ◌∷◌, ◌++◌, append-nil, append_assoc}
use Rattle.std.proofs.lemmas.List.{length-replicate}
use Rattle.std.proofs.Math.Seq.{take_at}
use Rattle.mrd_numbers.specs.Little.{to_bytes}
use Rattle.mrd_numbers.specs.ToBytesLaws.{length-to_bytes}
use Rattle.mrd_logic.specs.Choice.{both}
use Rattle.mrd_logic.specs.Every.{Every, every_split}
use Rattle.mrd_format.specs.declared.kind.Kind.{Kind}
use Rattle.mrd_format.specs.declared.kind.Kind.TheVariants.{ConfigurationName, ConfigurationText, HeaderText, Close, Text, Acquisition, Image, Waveform}
use Rattle.mrd_format.specs.Acquisition as acquisition
use Rattle.mrd_format.specs.Image as image
use Rattle.mrd_format.specs.Waveform as waveform
use Rattle.mrd_format.specs.Kinds.{id_of, form_of, fixed_size, header_size}
use Rattle.mrd_format.specs.Message.{size_of, fixed_part}
use Rattle.mrd_format.specs.Parts as part
use Rattle.mrd_format.specs.Parts.{Part, tag, same, is_channel, channel_of, Extent, Reach, lies, lacks, bytes_at, bytes_in, Parts, part_in, parts_by, record_parts, Contents, part_length}
use Rattle.mrd_format.specs.Segments.{Segment, fixed, counted, padded, sized, channels, size_in, total, name_length, reach_if, reach_in, reach_from, reach_size, segment_bytes, segments_bytes}
use Rattle.mrd_format.specs.Content.{segments_of, extent_of, contents_of, fields_of, record_of, settled_by, fixed_of, body_of, bytes_after_id, message_of, contents_record}
use Rattle.mrd_format.specs.Headers.{Cell, values, settled}
use Rattle.mrd_format.specs.Lawful.{lawful}
use Rattle.mrd_format.proofs.HeaderLaws.{acquisition-lawful, image_lawful, waveform-lawful, values_same, settled-fields}
use Rattle.mrd_format.proofs.ReachLaws.{size_segments, reach_if_lem, or_else_lem, not_there}
use Rattle.mrd_format.specs.Fitting.{Holds, Recorded, Fitting}

-- its bytes go by its tag
same-part : (ps : Parts) (p q : Part) → same p q ≡ true → part_in ps q ≡ part_in ps p
same-part ps p q e = rw (eqb-true (tag p) (tag q) (both _ _ e).0)

segments_append : (z : Part → ℕ) (c : Contents) (ss ts : List Segment) → segments_bytes z c (ss ++ ts) ≡ segments_bytes z c ss ++ segments_bytes z c ts
segments_append z c [] ts = refl
segments_append z c (s ∷ []) [] = sym (append-nil (segment_bytes z c s))
segments_append z c (s ∷ []) (t ∷ ts) = refl
segments_append z c (s ∷ (u ∷ ss)) ts =
    rw (segments_append z c (u ∷ ss) ts) (sym (append_assoc (segment_bytes z c s) (segments_bytes z c (u ∷ ss)) (segments_bytes z c ts)))

-- a test that fails finds nothing
absent : (at n : ℕ) {b : Bool} {e : Extent} → b ≡ false → reach_if b at n ≡ lies e → ⊥
absent at n {b} fails q = true≢false (sym (reach_if_lem at n b q).0 ∙ fails)

module _ (z : Part → ℕ) (h : List ℕ) (c : Contents) where
  segment-length : (s : Segment) → Holds h c s → length (segment_bytes z c s) ≡ size_in s
  segment-length (fixed n) f = f
  segment-length (counted w p) f = length-to_bytes w (z p)
  segment-length (padded n) f = simp (length-append, length-replicate) (omega arith)
  segment-length (sized p n) f = f
  segment-length (channels k n) f = f

  pub segments-length : (ss : List Segment) → Every (Holds h c) ss → length (segments_bytes z c ss) ≡ total ss
  segments-length [] f = refl
  segments-length (s ∷ []) f = segment-length s f.0
  segments-length (s ∷ (t ∷ ss)) f = rw (length-append, segment-length s f.0, segments-length (t ∷ ss) f.1)

  -- a part that lies in segments which follow the bytes pre
  module _ (p : Part) (r : Recorded p) where
    found : (pre x post : List ℕ) (q : Part) (n : ℕ) {e : Extent} → part_in c.parts q ≡ x → length x ≡ n →
        reach_if (same p q) (length pre) n ≡ lies e → bytes_at (pre ++ (x ++ post)) e ≡ part_in c.parts p
    found pre x post q n given long there =
        let t = reach_if_lem (length pre) n (same p q) there in
        rw (← t.1, drop_at pre (x ++ post) (length pre) refl, take_at x post n long) (sym given ∙ same-part c.parts p q t.0)

    segment-part : (pre post : List ℕ) (s : Segment) {e : Extent} → Holds h c s → reach_in p h (length pre) s ≡ lies e →
        bytes_at (pre ++ (segment_bytes z c s ++ post)) e ≡ part_in c.parts p
    segment-part pre post (fixed n) f q = absurd (absent (length pre) n r.2 q)
    segment-part pre post (counted w x) f q = absurd (absent (length pre) w r.1 q)
    segment-part pre post (padded n) f q =
        let name = c.parts.name in
        ⊎_elim
        (λ a. rw (append_assoc name (replicate (n - length name) 0) post) (found pre name _ part.name (name_length h) refl (sym f.0) a))
        (λ b. absurd (absent _ _ r.3 b)) (or_else_lem _ _ q)
    segment-part pre post (sized x n) f q = found pre _ post x n refl f q
    segment-part pre post (channels k n) f q =
        ⊎_elim (λ a. found pre _ post part.samples (k * n) refl f a) (λ b. absurd (absent _ _ (ap (λ (t : Bool). t && ltb (channel_of p) k) r.4) b)) (or_else_lem _ _ q)

    segments-part : (pre : List ℕ) (ss : List Segment) {e : Extent} → Every (Holds h c) ss → reach_from p h (length pre) ss ≡ lies e →
        bytes_at (pre ++ segments_bytes z c ss) e ≡ part_in c.parts p
    segments-part pre [] f q = absurd (not_there q)
    segments-part pre (s ∷ []) f q = rw append-nil at (segment-part pre [] s f.0 q)
    segments-part pre (s ∷ (t ∷ ss)) {e} f q =
        ⊎_elim (λ a. segment-part pre (segments_bytes z c (t ∷ ss)) s f.0 a)
        (λ b.
        let far : length (pre ++ segment_bytes z c s) ≡ length pre + size_in s = rw (length-append, segment-length s f.0) in
        rw (← append_assoc pre (segment_bytes z c s) (segments_bytes z c (t ∷ ss))) (segments-part (pre ++ segment_bytes z c s) (t ∷ ss) {e = e} f.1 (rw far b)))
        (or_else_lem (reach_in p h (length pre) s) _ q)

-- no bytes at all
none : (x : List ℕ) → 0 ≡ length x → [] ≡ x
none [] e = refl
none (b ∷ x) e = absurd (omega arith)

-- a header with the true lengths in it, alone, has the fields of the given one
settled-values : (c : Contents) (n : ℕ) (cs : List Cell) → lawful 0 n cs ≡ true → length c.header ≡ n →
    values cs (settled (part_length c) cs c.header) ≡ values cs c.header
settled-values c n cs p e =
    let h = settled (part_length c) cs c.header in
    values_same cs h c.header
    (rw append-nil at (settled-fields (part_length c) n cs c.header [] p (le_of_eq (sym e))))

-- the fields of the fixed part are those of the given header
made-fields : (k : Kind) (c : Contents) → length c.header ≡ header_size k → fields_of k (fixed_of k c) ≡ fields_of k c.header
unfolding fields_of fixed_of
made-fields ConfigurationName c e = refl
made-fields ConfigurationText c e = refl
made-fields HeaderText c e = refl
made-fields Close c e = refl
made-fields Text c e = refl
made-fields Acquisition c e = settled-values c 340 acquisition.cells acquisition-lawful e
made-fields Image c e =
    values_same image.cells _ c.header (settled-fields (part_length c) 198 image.cells c.header _ image_lawful (le_of_eq (sym e)))
made-fields (Waveform l) c e = settled-values c (waveform.header_bytes l) (waveform.cells l) (waveform-lawful l) e

module _ (k : Kind) (c : Contents) (f : Fitting k c) where
  abbrev settled_ones : Contents
  settled_ones = settled_by k (part_length c) c

  made-segments : message_of k c ≡ to_bytes 2 (id_of k) ++ segments_bytes (part_length c) settled_ones (segments_of k (fixed_of k c))
  unfolding message_of bytes_after_id fixed_of body_of
  made-segments =
      ap (λ (x : List ℕ). to_bytes 2 (id_of k) ++ x)
      (sym (segments_append (part_length c) settled_ones (form_of k).fixed_segments ((form_of k).body_segments (fixed_of k c))))

  pub made-length : length (message_of k c) ≡ size_of k (fixed_of k c)
  made-length =
      let long = segments-length (part_length c) (fixed_of k c) settled_ones (segments_of k (fixed_of k c)) f.holds in
      rw (made-segments, size_segments k (fixed_of k c)) (omega (arith, long))

  -- the fixed part is the one that was made
  pub fixed-length : length (fixed_of k c) ≡ fixed_size k
  unfolding fixed_of
  fixed-length =
      segments-length (part_length c) (fixed_of k c) settled_ones (form_of k).fixed_segments
      (every_split (Holds (fixed_of k c) settled_ones) (form_of k).fixed_segments ((form_of k).body_segments (fixed_of k c)) f.holds).0

  pub made-fixed : fixed_part k (message_of k c) ≡ fixed_of k c
  unfolding fixed_part message_of bytes_after_id
  made-fixed = take_at (fixed_of k c) (body_of k c) (fixed_size k) fixed-length

  -- each part lies where it is said to, with the bytes that were given
  made-part : (p : Part) → Recorded p → reach_size (extent_of p k (fixed_of k c)) ≡ part_length c p →
      bytes_in (message_of k c) (extent_of p k (fixed_of k c)) ≡ part_in c.parts p
  unfolding extent_of
  made-part p r size = by (extent_of p k (fixed_of k c)) refl size
    where
      by : (x : Reach) → extent_of p k (fixed_of k c) ≡ x → reach_size x ≡ part_length c p →
          bytes_in (message_of k c) x ≡ part_in c.parts p
      by lacks q l = none (part_in c.parts p) l
      by (lies e) q l =
          ⊎_elim (λ a. absurd (absent 0 2 r.0 a))
          (λ b. rw made-segments (segments-part (part_length c) (fixed_of k c) settled_ones p r (to_bytes 2 (id_of k)) (segments_of k (fixed_of k c)) f.holds b))
          (or_else_lem (reach_if (same p part.id) 0 2) _ q)

  made-parts : parts_by (λ (p : Part). bytes_in (message_of k c) (extent_of p k (fixed_of k c))) ≡ c.parts
  made-parts =
      λ i. record {
        name = made-part part.name (refl, refl, refl, refl, refl) (cc) i;
        text = made-part part.text (refl, refl, refl, refl, refl) (cc) i;
        trajectory = made-part part.trajectory (refl, refl, refl, refl, refl) (cc) i;
        samples = made-part part.samples (refl, refl, refl, refl, refl) (cc) i;
        attributes = made-part part.attributes (refl, refl, refl, refl, refl) (cc) i;
        pixels = made-part part.pixels (refl, refl, refl, refl, refl) (cc) i;
        waveform = made-part part.waveform (refl, refl, refl, refl, refl) (cc) i;
      }

  -- so the record of the message is the record of what was given
  pub made-record : record_of k (message_of k c) ≡ contents_record k c
  unfolding record_of contents_record contents_of
  made-record =
      let m = message_of k c in
      let fields : fields_of k (fixed_part k m) ≡ fields_of k c.header = ap (fields_of k) made-fixed ∙ made-fields k c f.header in
      let parts : (contents_of k m).parts ≡ c.parts = ap (λ (h : List ℕ). parts_by (λ (p : Part). bytes_in m (extent_of p k h))) made-fixed ∙ made-parts in
      λ i. record { kind = k; fields = fields i; parts = parts i }
