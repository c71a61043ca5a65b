-- The attribute length in an image's header (request E1): 0 and the true length make one record and one normal form.
-- Assumes nothing.
use Rattle.std.specs.Prelude.{ℕ, ◌+◌, ◌≤◌, ◌≡◌, ◌⊎◌, List, length, drop}
use Rattle.std.proofs.Common.{arith, sym, ◌∙◌, inl, inr, ⊎_elim}
use Rattle.mrd_numbers.specs.Little.{num}
use Rattle.mrd_numbers.specs.Laws.{num-take, num-drop}
use Rattle.mrd_numbers.specs.Stored.{stored}
use Rattle.mrd_logic.specs.Answer.{accepted, answered}
use Rattle.mrd_format.specs.declared.kind.Kind.TheVariants.{Image}
use Rattle.mrd_format.specs.Image.{attribute_length}
use Rattle.mrd_format.specs.Message.{fixed_part, size_of}
use Rattle.mrd_format.specs.WellFormed.{WellFormed}
use Rattle.mrd_format.specs.MessageLaws.{num-fixed, well-least}
use Rattle.mrd_format.proofs.ImageLaws.{restated-long, restated-id, restated-size, restated-sound, restated-record, restated-normal}
use Rattle.mrd_stream.specs.Walk.{answer}
use Rattle.mrd_stream.specs.Places.{Located, place}
use Rattle.mrd_cut.specs.CutPlaces.{part_at}
use Rattle.mrd_cut.proofs.InsideLaws.{place_inside}
use Rattle.mrd_demands.specs.Replaced.{SameMeaning}
use Rattle.mrd_demands.proofs.ReplacedLaws.{replaced-same}
use Rattle.mrd_format.specs.declared.rules.Rules.{Rules}

-- an image's message with 0 or the true length in its header is well formed
abbrev restated-well : {rules : Rules} (m w : List ℕ) → length w ≡ 4 → (f : WellFormed rules m) → f.kind ≡ Image →
    (num 4 w 0 ≡ 0) ⊎ (num 4 w 0 ≡ attribute_length (fixed_part Image m)) → 208 ≤ length m → WellFormed rules (stored 196 w m)
restated-well m w size f e may long = record {
  kind = Image;
  known = rw (restated-id m w size long) (rw e at f.known);
  sound = restated-sound m w size long may (rw e at f.sound);
  small = rw (restated-size m w size long) (rw e at f.small);
  whole = restated-size m w size long ∙ rw e at f.whole ∙ sym (restated-long m w size long);
  encoded = rw (restated-record m w size long) (rw e at f.encoded);
}

-- the true length, where it stands in the stream
length-there : (rules : Rules) (s : List ℕ) (i : ℕ) {l : Located} → place rules s i ≡ answered l → 208 ≤ length (part_at s l) →
    attribute_length (fixed_part Image (part_at s l)) ≡ num 8 s (l.start + 200)
length-there rules s i {l} p long =
    let within : 208 ≤ l.size = omega (arith, (place_inside rules s i p).long) in
    num-fixed Image (part_at s l) 8 198 (omega arith) ∙ num-take 8 l.size (drop l.start s) 200 within ∙ num-drop 8 l.start s 200

-- other bytes w in the place of an image header's attribute length
pub either_number : (rules : Rules) (s : List ℕ) {n : ℕ} → answer rules s ≡ accepted n → (i : ℕ) {l : Located} → place rules s i ≡ answered l → l.kind ≡ Image →
    (w : List ℕ) → length w ≡ 4 → (num 4 w 0 ≡ 0) ⊎ (num 4 w 0 ≡ num 8 s (l.start + 200)) → SameMeaning rules s (stored (l.start + 196) w s) n
either_number rules s e i {l} p k w size may =
    let it = place_inside rules s i p in
    let m = part_at s l in
    let is : it.well.kind ≡ Image = it.kind ∙ k in
    let long : 208 ≤ length m = rw is at (well-least m it.well) in
    let true_length = length-there rules s i p long in
    let may-stand = ⊎_elim (λ z. inl z) (λ a. inr (a ∙ sym true_length)) may in
    let well = restated-well m w size it.well is may-stand long in
    let id = restated-id m w size long in
    let fits : 196 + length w ≤ length m = omega (arith, size, long) in
    let whole : size_of Image (fixed_part Image m) ≡ length m = rw is at it.well.whole in
    let kind-of : (u : WellFormed rules m) → u.kind ≡ Image = λ u. cc (u.known, it.well.known, is) in
    replaced-same s e i p 196 w fits well id (λ u. rw (kind-of u) (restated-record m w size long))
    (λ u. rw (kind-of u) (restated-normal m w size whole long))
