-- Where the parts of a message lie: they adjoin from its first byte to its last, each lies in it, and one channel's samples are its share of all
-- of them.
-- Assumes nothing.
use Rattle.std.specs.Prelude.{ℕ, suc, ◌+◌, ◌-◌, ◌*◌, ◌≤◌, ◌<◌, ◌≡◌, refl, Bool, true, false, ◌&&◌, ◌⊎◌, List, [], ◌∷◌, eqb, ltb, length, take, drop}
use Rattle.std.proofs.Common.{mul-le-mul_right, suc-mul, arith, inl, inr, ⊎_elim, ltb-true, drop-drop}
use Rattle.mrd_bytes.specs.Bytes.{index_of, index_after}
use Rattle.mrd_numbers.specs.Laws.{part-take}
use Rattle.mrd_logic.specs.Every.{Every}
use Rattle.mrd_logic.specs.Choice.{both}
use Rattle.mrd_format.specs.declared.kind.Kind.{Kind}
use Rattle.mrd_format.specs.declared.kind.Kind.TheVariants.{ConfigurationName, ConfigurationText, HeaderText, Close, Text, Acquisition, Image, Waveform}
use Rattle.mrd_format.specs.Kinds.{form_of, fixed_size}
use Rattle.mrd_format.specs.Message.{body_size, size_of, fixed_part}
use Rattle.mrd_format.specs.Acquisition as acquisition
use Rattle.mrd_format.specs.Parts as part
use Rattle.mrd_format.specs.Parts.{Part, same, is_channel, channel_of, Extent, extent, Reach, lies, lacks, bytes_at, bytes_in, part_in, record_parts}
use Rattle.mrd_format.specs.Segments.{Segment, fixed, counted, padded, sized, channels, size_in, total, name_length, or_else, reach_if, reach_in, reach_from}
use Rattle.mrd_format.specs.Content.{segments_of, placed_parts, extent_of, contents_of, record_of}
use Rattle.mrd_format.specs.Adjoining.{Adjoins, Fits, places_of}
use Rattle.mrd_format.proofs.AdjoinLaws.{total-append, segments-adjoin}

-- a name is no longer than its bytes
index-within : (b : ℕ) (xs : List ℕ) → index_of b xs ≤ length xs
unfolding index_of index_after
index-within b [] = omega arith
index-within b (x ∷ xs) = by-test (eqb x b) (index-within b xs)
  where
    by-test : (t : Bool) → index_of b xs ≤ length xs → index_after t (index_of b xs) ≤ suc (length xs)
    by-test true h = omega arith
    by-test false h = omega arith

-- the segments of a message have room for its name
fitting : (k : Kind) (h : List ℕ) → length h ≡ fixed_size k → Every (Fits h) (segments_of k h)
unfolding name_length
fitting ConfigurationName h e = (omega (arith, e, index-within 0 h), tt)
fitting ConfigurationText h e = (tt, (tt, tt))
fitting HeaderText h e = (tt, (tt, tt))
fitting Close h e = tt
fitting Text h e = (tt, (tt, tt))
fitting Acquisition h e = (tt, (tt, (tt, tt)))
fitting Image h e = (tt, (tt, (tt, (tt, tt))))
fitting (Waveform l) h e = (tt, (tt, tt))

pub size_segments : (k : Kind) (h : List ℕ) → size_of k h ≡ 2 + total (segments_of k h)
unfolding size_of body_size
size_segments k h = omega (arith, total-append (form_of k).fixed_segments ((form_of k).body_segments h))

-- the parts of a message of kind k with the fixed part h
module _ (k : Kind) (h : List ℕ) (long : length h ≡ fixed_size k) where
  -- adjoin from its first byte to its last
  pub parts-adjoin : Adjoins 0 (size_of k h) (places_of (placed_parts k h))
  parts-adjoin = (refl, rw (size_segments k h) (segments-adjoin h 2 (segments_of k h) (fitting k h long)))

-- a part that lies somewhere was found by its test
pub reach_if_lem : (at n : ℕ) (b : Bool) {e : Extent} → reach_if b at n ≡ lies e → (b ≡ true) × (extent at n ≡ e)
reach_if_lem at n true q = (refl, cc)
reach_if_lem at n false q = absurd (let z : ◌≡◌ {A = ℕ} 0 1 = cc in omega arith)

pub or_else_lem : (a b : Reach) {e : Extent} → or_else a b ≡ lies e → (a ≡ lies e) ⊎ (b ≡ lies e)
or_else_lem (lies d) b q = inl q
or_else_lem lacks b q = inr q

-- an extent within n bytes from `at` on
abbrev Within : ℕ → ℕ → Extent → Type 0
Within at n e = (at ≤ e.offset) × (e.offset + e.size ≤ at + n)

-- an extent found by a test lies within the segment, where it would
found_within : (at n i z : ℕ) (b : Bool) {e : Extent} → (b ≡ true → Within at n (extent i z)) → reach_if b i z ≡ lies e → Within at n e
found_within at n i z b w q = let r = reach_if_lem i z b q in rw (← r.1) (w r.0)

module _ (p : Part) (h : List ℕ) where
  segment-within : (at : ℕ) (s : Segment) {e : Extent} → Fits h s → reach_in p h at s ≡ lies e → Within at (size_in s) e
  segment-within at (fixed n) f q = found_within at n at n (same p part.header) (λ t. (omega arith, omega arith)) q
  segment-within at (counted w x) f q = found_within at w at w (same p part.count) (λ t. (omega arith, omega arith)) q
  segment-within at (padded n) f q =
      ⊎_elim (found_within at n at (name_length h) (same p part.name) (λ t. (omega arith, omega arith)))
      (found_within at n (at + name_length h) (n - name_length h) (same p part.filler) (λ t. (omega arith, omega arith))) (or_else_lem (reach_if (same p part.name) at (name_length h)) _ q)
  segment-within at (sized x n) f q = found_within at n at n (same p x) (λ t. (omega arith, omega arith)) q
  segment-within at (channels c n) f q =
      ⊎_elim (found_within at (c * n) at (c * n) (same p part.samples) (λ t. (omega arith, omega arith)))
      (found_within at (c * n) (at + channel_of p * n) n (is_channel p && ltb (channel_of p) c) (λ t. share (ltb-true (channel_of p) c (both (is_channel p) _ t).1)))
      (or_else_lem (reach_if (same p part.samples) at (c * n)) _ q)
    where
      share : channel_of p < c → Within at (c * n) (extent (at + channel_of p * n) n)
      share l =
          let room : suc (channel_of p) * n ≤ c * n = mul-le-mul_right n l in
          (omega arith, omega (arith, suc-mul (channel_of p) n))

  segments-within : (at : ℕ) (ss : List Segment) {e : Extent} → Every (Fits h) ss → reach_from p h at ss ≡ lies e → Within at (total ss) e
  segments-within at [] f q = absurd (let z : ◌≡◌ {A = ℕ} 0 1 = cc in omega arith)
  segments-within at (s ∷ []) f q = segment-within at s f.0 q
  segments-within at (s ∷ (t ∷ ss)) {e} f q =
      ⊎_elim (λ a. let w = segment-within at s f.0 a in (omega (arith, w), omega (arith, w)))
      (λ b. let w = segments-within (at + size_in s) (t ∷ ss) f.1 b in (omega (arith, w), omega (arith, w)))
      (or_else_lem (reach_in p h at s) (reach_from p h (at + size_in s) (t ∷ ss)) q)

-- each part lies in its message
pub part-within : (k : Kind) (h : List ℕ) → length h ≡ fixed_size k → (p : Part) {e : Extent} → extent_of p k h ≡ lies e →
    e.offset + e.size ≤ size_of k h
unfolding extent_of
part-within k h long p {e} q =
    ⊎_elim (λ a. omega (arith, found_within 0 2 0 2 (same p part.id) (λ t. (omega arith, omega arith)) a, size_segments k h))
    (λ b. omega (arith, segments-within p h 2 (segments_of k h) (fitting k h long) b, size_segments k h))
    (or_else_lem (reach_if (same p part.id) 0 2) _ q)

pub not_there : {e : Extent} → lacks ≡ lies e → ⊥
not_there q = let z : ◌≡◌ {A = ℕ} 0 1 = cc in omega arith

-- one channel's samples, n of z bytes each, among all of them, from `at` on
share : (m : List ℕ) (at n z c : ℕ) {e : Extent} → reach_if (ltb c n) (at + c * z) z ≡ lies e →
    bytes_at m e ≡ take e.size (drop (c * e.size) (take (n * z) (drop at m)))
share m at n z c q =
    let r = reach_if_lem (at + c * z) z (ltb c n) q in
    let room : suc c * z ≤ n * z = mul-le-mul_right z (ltb-true c n r.0) in
    let fits : c * z + z ≤ n * z = omega (arith, suc-mul c z) in
    rw (← r.1, part-take z (n * z) (drop at m) (c * z) fits, drop-drop)

-- each view is a part of the record: a part by its name is the record's part of that name, and a channel's samples are its share of the
-- record's samples
pub view_is_part : (k : Kind) (m : List ℕ) → Every (λ (p : Part). bytes_in m (extent_of p k (fixed_part k m)) ≡ part_in (record_of k m).parts p) record_parts
unfolding record_of contents_of
view_is_part k m = (refl, (refl, (refl, (refl, (refl, (refl, (refl, tt)))))))

pub channel_is_share : (k : Kind) (m : List ℕ) (c : ℕ) {e : Extent} → extent_of (part.channel c) k (fixed_part k m) ≡ lies e →
    bytes_at m e ≡ take e.size (drop (c * e.size) (record_of k m).parts.samples)
unfolding record_of contents_of extent_of
channel_is_share ConfigurationName m c q = absurd (not_there q)
channel_is_share ConfigurationText m c q = absurd (not_there q)
channel_is_share HeaderText m c q = absurd (not_there q)
channel_is_share Close m c q = absurd (not_there q)
channel_is_share Text m c q = absurd (not_there q)
channel_is_share Acquisition m c q =
    let h = fixed_part Acquisition m in
    share m (342 + acquisition.trajectory_size h) (acquisition.get acquisition.active-channels h) (acquisition.channel_size h) c q
channel_is_share Image m c q = absurd (not_there q)
channel_is_share (Waveform l) m c q = absurd (not_there q)
