-- The list of a message's parts and the search for one go over the same segments: every part is found where it lies, what is no part is not
-- found, and the samples of all channels lie where the channels do.
-- Assumes nothing.
use Prim.Native.Nat.{ℕ, zero, suc, ◌+◌, ◌*◌, ◌≤◌, ◌<◌}
use Rattle.std.proofs.Math.Nat.{suc-mul}
use Rattle.std.proofs.Common.{zero-mul, lt-ltb, ltb-true}
use native.Mathlib.Omega.{arith}
use Rattle.std.specs.Prelude.{◌≡◌, refl, Bool, true, false, ◌&&◌, List, [], ◌∷◌, ltb}
use Rattle.std.proofs.lemmas.Bool.{eqb-false}
use Rattle.mrd_logic.specs.Every.{Every, every_split}
use Rattle.mrd_format.specs.declared.kind.Kind.{Kind}
use Rattle.mrd_format.specs.declared.kind.Kind.TheVariants.{ConfigurationName, ConfigurationText, HeaderText, Close, Text, Acquisition, Image, Waveform}
use Rattle.mrd_format.specs.Acquisition as acquisition
use Rattle.mrd_format.specs.Parts as part
use Rattle.mrd_format.specs.Parts.{Part, same, is_channel, channel_of, extent, lies, lacks}
use Rattle.mrd_format.specs.Segments.{Segment, fixed, counted, padded, sized, channels, size_in, PlacedPart, channels_from, segment_parts, segments_parts, reach_if, reach_in, reach_from}
use Rattle.mrd_format.specs.Content.{segments_of, placed_parts, extent_of}
use Rattle.mrd_format.specs.Adjoining.{Adjoins, places_of}
use Rattle.mrd_format.proofs.AdjoinLaws.{channels-adjoin}
use Rattle.mrd_format.specs.PartSearch.{FoundAt, NoneIs}

-- of an acquisition with the fixed part h: where its channels begin, how many they are, and how long each is
module _ (h : List ℕ) where
  abbrev first : ℕ
  first = 342 + acquisition.trajectory_size h

  abbrev count : ℕ
  count = acquisition.get acquisition.active-channels h

  abbrev each : ℕ
  each = acquisition.channel_size h

  channels-found : (n c at : ℕ) → c + n ≤ count → at ≡ first + c * each → Every (FoundAt Acquisition h) (channels_from n c at each)
  unfolding extent_of
  channels-found zero c at l e = tt
  channels-found (suc n) c at l e =
      let below : c < count = omega arith in
      (rw (lt-ltb c count below, e), channels-found n (suc c) (at + each) (omega arith) (omega (arith, suc-mul c each)))

  -- the samples of all channels lie where the channels do, one after the other
  pub samples-are-channels : (extent_of part.samples Acquisition h ≡ lies (extent first (count * each))) ×
      Adjoins first (first + count * each) (places_of (channels_from count 0 first each))
  unfolding extent_of
  samples-are-channels = (refl, channels-adjoin count 0 first each)

-- every part of a message is found where it lies
pub parts-found : (k : Kind) (h : List ℕ) → Every (FoundAt k h) (placed_parts k h)
unfolding extent_of
parts-found ConfigurationName h = (refl, (refl, (refl, tt)))
parts-found ConfigurationText h = (refl, (refl, (refl, tt)))
parts-found HeaderText h = (refl, (refl, (refl, tt)))
parts-found Close h = (refl, tt)
parts-found Text h = (refl, (refl, (refl, tt)))
parts-found Acquisition h = (refl, (refl, (refl, channels-found h (count h) 0 (first h) (omega arith) (omega (arith, zero-mul (each h))))))
parts-found Image h = (refl, (refl, (refl, (refl, (refl, tt)))))
parts-found (Waveform l) h = (refl, (refl, (refl, tt)))

module _ (p : Part) (h : List ℕ) (apart : same p part.samples ≡ false) where
  no-channel : (n c at z : ℕ) → NoneIs p (channels_from n c at z) → is_channel p ≡ true → channel_of p < c + n → channel_of p < c
  no-channel zero c at z o i l = omega arith
  no-channel (suc n) c at z o i l =
      let later : channel_of p < suc c = no-channel n (suc c) (at + z) z o.1 i (omega arith) in
      let other = eqb-false (channel_of p) c (rw i at o.0) in
      omega (arith, other)

  channel-lacks : (n at z : ℕ) → NoneIs p (channels_from n 0 at z) → (i t : Bool) → is_channel p ≡ i → ltb (channel_of p) n ≡ t →
      reach_if (i && t) (at + channel_of p * z) z ≡ lacks
  channel-lacks n at z o false t e l = refl
  channel-lacks n at z o true false e l = refl
  channel-lacks n at z o true true e l =
      absurd (omega (arith, no-channel n 0 at z o e (omega (arith, ltb-true (channel_of p) n l))))

  segment-lacks : (at : ℕ) (s : Segment) → NoneIs p (segment_parts h at s) → reach_in p h at s ≡ lacks
  segment-lacks at (fixed n) o = rw o.0
  segment-lacks at (counted w q) o = rw o.0
  segment-lacks at (padded n) o = rw (o.0, o.1.0)
  segment-lacks at (sized q n) o = rw o.0
  segment-lacks at (channels c n) o = rw apart (channel-lacks c at n o (is_channel p) (ltb (channel_of p) c) refl refl)

  segments-lack : (at : ℕ) (ss : List Segment) → NoneIs p (segments_parts h at ss) → reach_from p h at ss ≡ lacks
  segments-lack at [] o = refl
  segments-lack at (s ∷ []) o = segment-lacks at s o
  segments-lack at (s ∷ (t ∷ ss)) o =
      let both = every_split (λ (q : PlacedPart). same p q.part ≡ false) (segment_parts h at s) (segments_parts h (at + size_in s) (t ∷ ss)) o in
      rw (segment-lacks at s both.0) (segments-lack (at + size_in s) (t ∷ ss) both.1)

  -- and a part that is none of the message's, nor the samples of all channels, is not found
  pub others-lacking : (k : Kind) → NoneIs p (placed_parts k h) → extent_of p k h ≡ lacks
  unfolding extent_of
  others-lacking k o = rw o.0 (segments-lack 2 (segments_of k h) o.1)
