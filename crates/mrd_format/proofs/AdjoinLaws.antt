-- The parts of a message adjoin, from its first byte to its last; joined, they are the message.
-- Assumes nothing.
use Rattle.std.specs.Prelude.{ℕ, zero, suc, ◌+◌, ◌*◌, ◌≡◌, refl, true, ◌||◌, List, [], ◌∷◌, ◌++◌, map, take, drop}
use Rattle.std.proofs.Common.{zero-add, add-zero, add_assoc, zero-mul, suc-mul, arith, sym, ap, ◌∙◌, append-nil, take-take}
use Rattle.std.proofs.lemmas.List.{map-append}
use Rattle.std.proofs.lemmas.Bool.{not-true}
use Rattle.mrd_logic.specs.Every.{Every}
use Rattle.mrd_logic.specs.Choice.{both, neither}
use Rattle.mrd_logic.specs.Joined.{joined, joined-append}
use Rattle.mrd_format.specs.Headers.{Cell, settled}
use Rattle.mrd_format.specs.Lawful.{all_fields, lawful}
use Rattle.mrd_format.proofs.HeaderLaws.{all_settled, take_next, take-parts}
use Rattle.mrd_format.specs.Parts.{Part, header, filler, same, Extent, extent}
use Rattle.mrd_format.specs.Segments.{Segment, fixed, counted, padded, sized, channels, size_in, total, channels_from, segment_parts, segments_parts}
use Rattle.mrd_format.specs.Content.{normal_part}
use Rattle.mrd_format.specs.Holding.{evenly}
use Rattle.mrd_format.specs.Adjoining.{plain, all_plain, Adjoins, Fits, places_of}

pub total-append : (ss ts : List Segment) → total (ss ++ ts) ≡ total ss + total ts
total-append [] ts = sym (zero-add (total ts))
total-append (s ∷ []) [] = sym (add-zero (size_in s))
total-append (s ∷ []) (t ∷ ts) = refl
total-append (s ∷ (u ∷ ss)) ts = rw (total-append (u ∷ ss) ts) (sym (add_assoc (size_in s) (total (u ∷ ss)) (total ts)))

module _ (l : Part → ℕ) (cs : List Cell) (m : List ℕ) where
  -- the bytes of a message's channels
  pub joined-channels : (n c at z : ℕ) → joined (map (normal_part l cs m) (channels_from n c at z)) ≡ take (n * z) (drop at m)
  joined-channels zero c at z = rw zero-mul
  joined-channels (suc n) c at z = rw (take-parts n z at m, joined-channels n (suc c) (at + z) z)

module _ (l : Part → ℕ) (cs : List Cell) (m h : List ℕ) where
  segment-joined : (at : ℕ) (s : Segment) → plain cs s ≡ true → joined (map (normal_part l cs m) (segment_parts h at s)) ≡ take (size_in s) (drop at m)
  segment-joined at (fixed n) e =
      let tests = both (all_fields cs) (lawful 0 n cs) e in
      append-nil (settled l cs (take n (drop at m))) ∙ all_settled l n cs (take n (drop at m)) tests.0 tests.1 ∙
      take-take n n (drop at m) (omega arith)
  segment-joined at (counted w p) e = append-nil (take w (drop at m))
  segment-joined at (sized p n) e =
      let tests = neither (same p filler) (same p header) (not-true (same p filler || same p header) e) in
      rw (tests.0, tests.1) (append-nil (take n (drop at m)))
  segment-joined at (channels c n) e = joined-channels l cs m c 0 at n
  segment-joined at (padded n) e = absurd (let z : ◌≡◌ {A = ℕ} 0 1 = cc in omega arith)

  -- the parts of such segments, joined, are the bytes that the segments take
  pub segments-joined : (at : ℕ) (ss : List Segment) → all_plain cs ss ≡ true →
      joined (map (normal_part l cs m) (segments_parts h at ss)) ≡ take (total ss) (drop at m)
  segments-joined at [] e = refl
  segments-joined at (s ∷ []) e = segment-joined at s (both (plain cs s) true e).0
  segments-joined at (s ∷ (t ∷ ss)) e =
      let p = both (plain cs s) (all_plain cs (t ∷ ss)) e in
      rw (
        map-append,
        joined-append,
        segment-joined at s p.0,
        segments-joined (at + size_in s) (t ∷ ss) p.1,
      ) (sym (take_next (size_in s) (total (t ∷ ss)) at m))

pub adjoins_append : (a b c : ℕ) (ds es : List Extent) → Adjoins a b ds → Adjoins b c es → Adjoins a c (ds ++ es)
adjoins_append a b c [] es p q = rw p q
adjoins_append a b c (d ∷ ds) es p q = (p.0, adjoins_append (a + d.size) b c ds es p.1 q)

-- places of one length, one after the other, adjoin
pub evenly-adjoin : (n at z : ℕ) → Adjoins at (at + n * z) (evenly n at z)
evenly-adjoin zero at z = rw zero-mul (sym (add-zero at))
evenly-adjoin (suc n) at z =
    let end : at + suc n * z ≡ at + z + n * z = omega (arith, suc-mul n z) in
    (refl, rw end (evenly-adjoin n (at + z) z))

-- channels of one length stand so
channels-evenly : (n c at z : ℕ) → places_of (channels_from n c at z) ≡ evenly n at z
channels-evenly zero c at z = refl
channels-evenly (suc n) c at z = ap (λ (es : List Extent). extent at z ∷ es) (channels-evenly n (suc c) (at + z) z)

pub channels-adjoin : (n c at z : ℕ) → Adjoins at (at + n * z) (places_of (channels_from n c at z))
channels-adjoin n c at z = rw (channels-evenly n c at z) (evenly-adjoin n at z)

module _ (h : List ℕ) where
  segment-adjoins : (at : ℕ) (s : Segment) → Fits h s → Adjoins at (at + size_in s) (places_of (segment_parts h at s))
  segment-adjoins at (fixed n) f = (refl, refl)
  segment-adjoins at (counted w p) f = (refl, refl)
  segment-adjoins at (padded n) f = (refl, (refl, omega arith))
  segment-adjoins at (sized p n) f = (refl, refl)
  segment-adjoins at (channels c n) f = channels-adjoin c 0 at n

  -- the parts of segments adjoin, from the first byte to the last
  pub segments-adjoin : (at : ℕ) (ss : List Segment) → Every (Fits h) ss → Adjoins at (at + total ss) (places_of (segments_parts h at ss))
  segments-adjoin at [] f = sym (add-zero at)
  segments-adjoin at (s ∷ []) f = segment-adjoins at s f.0
  segments-adjoin at (s ∷ (t ∷ ss)) f =
      let end : at + (size_in s + total (t ∷ ss)) ≡ at + size_in s + total (t ∷ ss) = sym (add_assoc at (size_in s) (total (t ∷ ss))) in
      rw (map-append, end)
      (adjoins_append at (at + size_in s) (at + size_in s + total (t ∷ ss)) (places_of (segment_parts h at s)) _
      (segment-adjoins at s f.0) (segments-adjoin (at + size_in s) (t ∷ ss) f.1))
