-- Channel masks in a stream (request E5): whatever stands in one, it is not refused.
-- Assumes nothing.
use Rattle.std.specs.Prelude.{ℕ, ◌+◌, ◌≤◌, ◌≡◌, refl, List, length}
use Rattle.std.proofs.Common.{arith, sym, ap, ◌∙◌}
use Rattle.mrd_numbers.specs.Little.{num}
use Rattle.mrd_numbers.specs.Laws.{num-take, num-drop}
use Rattle.mrd_numbers.specs.Stored.{stored, length-stored, take-stored, drop-stored}
use Rattle.mrd_logic.specs.Answer.{accepted, answered}
use Rattle.mrd_format.specs.declared.kind.Kind.TheVariants.{Acquisition}
use Rattle.mrd_format.specs.Acquisition.{trajectory_size, channel_size}
use Rattle.mrd_format.specs.MaskLaws.{checks_look_at}
use Rattle.mrd_format.specs.Message.{id_at, fixed_part, own_checks, body_size, size_of}
use Rattle.mrd_format.specs.WellFormed.{WellFormed}
use Rattle.mrd_format.specs.MessageLaws.{num-fixed, well-least}
use Rattle.mrd_format.specs.ProfileLaws.{textless-encoded}
use Rattle.mrd_stream.specs.Walk.{answer}
use Rattle.mrd_stream.specs.Places.{Located, place}
use Rattle.mrd_cut.specs.CutPlaces.{part_at}
use Rattle.mrd_cut.proofs.InsideLaws.{place_inside}
use Rattle.mrd_demands.proofs.ReplacedLaws.{replaced-accepted}
use Rattle.mrd_format.specs.declared.rules.Rules.{Rules}

-- an acquisition's message m with other bytes w in place of its mask, which stands after the id and 40 bytes of the header
module _ (m w : List ℕ) (size : length w ≡ 128) (long : 342 ≤ length m) where
  abbrev other : List ℕ
  other = stored 42 w m

  -- numbers before the mask and after it stay
  before-mask : (k i : ℕ) → i + k ≤ 42 → num k other i ≡ num k m i
  before-mask k i p =
      sym (num-take k 42 other i p) ∙ ap (λ (t : List ℕ). num k t i) (take-stored 42 42 w m (omega arith) (omega arith)) ∙ num-take k 42 m i p

  after-mask : (k i : ℕ) → num k other (170 + i) ≡ num k m (170 + i)
  after-mask k i =
      sym (num-drop k 170 other i) ∙ ap (λ (t : List ℕ). num k t i) (drop-stored 170 42 w m (omega (arith, size)) (omega arith)) ∙ num-drop k 170 m i

  -- and so do those of the header
  front : (k i : ℕ) → i + k ≤ 40 → num k (fixed_part Acquisition other) i ≡ num k (fixed_part Acquisition m) i
  front k i p =
      num-fixed Acquisition other k i (omega arith) ∙ before-mask k (2 + i) (omega arith) ∙ sym (num-fixed Acquisition m k i (omega arith))

  back : (k i : ℕ) → i + k ≤ 172 → num k (fixed_part Acquisition other) (168 + i) ≡ num k (fixed_part Acquisition m) (168 + i)
  back k i p =
      let at : 2 + (168 + i) ≡ 170 + i = omega arith in
      num-fixed Acquisition other k (168 + i) (omega arith) ∙ rw at (after-mask k i) ∙ sym (num-fixed Acquisition m k (168 + i) (omega arith))

  same-checks : own_checks Acquisition (fixed_part Acquisition other) ≡ own_checks Acquisition (fixed_part Acquisition m)
  unfolding own_checks
  same-checks =
      checks_look_at (fixed_part Acquisition other) (fixed_part Acquisition m) (
        front 2 0 (omega arith),
        (front 2 34 (omega arith), (front 2 36 (omega arith), (front 2 38 (omega arith), (back 2 0 (omega arith), (back 2 2 (omega arith), tt))))),
      )

  same_size : size_of Acquisition (fixed_part Acquisition other) ≡ size_of Acquisition (fixed_part Acquisition m)
  unfolding size_of body_size trajectory_size channel_size
  same_size = rw (front 2 34 (omega arith), front 2 38 (omega arith), back 2 8 (omega arith))

  other-long : length other ≡ length m
  other-long = length-stored 42 w m (omega (arith, size))

  other-id : id_at other ≡ id_at m
  other-id = before-mask 2 0 (omega arith)

  -- so it is well formed as m is
  other-well : {rules : Rules} (f : WellFormed rules m) → f.kind ≡ Acquisition → WellFormed rules other
  other-well {rules} f e = record {
    kind = Acquisition;
    known = rw other-id (rw e at f.known);
    sound = rw same-checks (rw e at f.sound);
    small = rw same_size (rw e at f.small);
    whole = rw same_size (rw e at f.whole ∙ sym other-long);
    encoded = textless-encoded rules.profile Acquisition refl other;
  }

-- an acquisition's message has an id and a header
acquisition-long : {rules : Rules} (m : List ℕ) (f : WellFormed rules m) → f.kind ≡ Acquisition → 342 ≤ length m
acquisition-long m f e = rw e at (well-least m f)

-- whatever 128 bytes stand in the mask of an acquisition, the stream is accepted
pub any_mask_accepted : (rules : Rules) (s : List ℕ) {c : ℕ} → answer rules s ≡ accepted c → (i : ℕ) {l : Located} → place rules s i ≡ answered l → l.kind ≡ Acquisition →
    (w : List ℕ) → length w ≡ 128 → answer rules (stored (l.start + 42) w s) ≡ accepted c
any_mask_accepted rules s e i {l} p k w size =
    let it = place_inside rules s i p in
    let long = acquisition-long (part_at s l) it.well (it.kind ∙ k) in
    let well = other-well (part_at s l) w size long it.well (it.kind ∙ k) in
    replaced-accepted s e i p 42 w (omega (arith, size)) well (other-id (part_at s l) w size long)
