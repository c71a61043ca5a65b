-- Waveform headers in either layout (request E3): which layout a stream's waveforms have, that filler has no meaning, and that no field starts there.
-- Assumes nothing.
use Rattle.std.specs.Prelude.{ℕ, ◌+◌, ◌≤◌, ◌≡◌, List, map, length, take, drop}
use Rattle.std.proofs.Common.{arith, ap, ◌∙◌}
use Rattle.std.proofs.Math.Path.{sym}
use Rattle.mrd_numbers.specs.Stored.{stored}
use Rattle.mrd_logic.specs.Answer.{accepted, answered, number}
use Rattle.mrd_format.specs.declared.rules.Layout.{Layout}
use Rattle.mrd_format.specs.declared.rules.Layout.TheVariants.{Aligned}
use Rattle.mrd_format.specs.declared.rules.Rules.{Rules}
use Rattle.mrd_format.specs.declared.kind.Kind.TheVariants.{Waveform}
use Rattle.mrd_format.specs.IdLaws.{known-layout}
use Rattle.mrd_format.specs.Lawful.{SameFields}
use Rattle.mrd_format.specs.Waveform.{header_bytes, cells}
use Rattle.mrd_format.proofs.WaveformLaws.{other, other-long, other-id, other-checks, other-size, other-record, other-normal}
use Rattle.mrd_format.specs.Message.{id_at, fixed_part, own_checks, size_of}
use Rattle.mrd_format.specs.WellFormed.{WellFormed}
use Rattle.mrd_format.specs.MessageLaws.{well-least}
use Rattle.mrd_element.specs.ElementLaws.{filler, none_in_filler}
use Rattle.mrd_stream.specs.Walk.{answer}
use Rattle.mrd_stream.specs.Places.{Located, place}
use Rattle.mrd_cut.specs.CutPlaces.{part_at}
use Rattle.mrd_cut.proofs.InsideLaws.{place_inside}
use Rattle.mrd_fields.specs.Fields.{field_of}
use Rattle.mrd_demands.specs.Told.{fixed-there}
use Rattle.mrd_demands.specs.Replaced.{SameMeaning}
use Rattle.mrd_demands.proofs.ReplacedLaws.{replaced-same}

-- a waveform of a stream has the layout that the rules say
pub layout_said : (rules : Rules) (s : List ℕ) (i : ℕ) {l : Located} → place rules s i ≡ answered l → {k : Layout} → l.kind ≡ Waveform k →
    k ≡ rules.layout
layout_said rules s i {l} p e =
    let it = place_inside rules s i p in
    known-layout rules (id_at (part_at s l)) (rw (it.kind ∙ e) at it.well.known)

-- a waveform's message m with another header g that has the same fields
module _ {rules : Rules} (k : Layout) (m : List ℕ) (f : WellFormed rules m) (is : f.kind ≡ Waveform k)
    (g : List ℕ) (long : length g ≡ header_bytes k) (same : SameFields (cells k) g (fixed_part (Waveform k) m)) where
  whole : size_of (Waveform k) (fixed_part (Waveform k) m) ≡ length m
  whole = rw is at f.whole

  with-header : stored 2 g m ≡ other k m whole g long same
  unfolding stored
  with-header = rw long

  header-id : id_at (stored 2 g m) ≡ id_at m
  header-id = ap id_at with-header ∙ other-id k m whole g long same

  abbrev header-well : WellFormed rules (stored 2 g m)
  unfolding own_checks
  header-well = record {
    kind = Waveform k;
    known = rw header-id (rw is at f.known);
    sound = rw (with-header, other-checks k m whole g long same) (rw is at f.sound);
    small = rw (with-header, other-size k m whole g long same) (rw is at f.small);
    whole = rw with-header (other-size k m whole g long same ∙ whole ∙ sym (other-long k m whole g long same));
    encoded = rw (with-header, other-record k m whole g long same) (rw is at f.encoded);
  }

-- other bytes g in the place of a waveform's header, which agree with it in the fields
pub same-fields : (rules : Rules) (s : List ℕ) {n : ℕ} → answer rules s ≡ accepted n → (i : ℕ) {l : Located} → place rules s i ≡ answered l →
    {k : Layout} → l.kind ≡ Waveform k → (g : List ℕ) → length g ≡ header_bytes k → SameFields (cells k) g (take (header_bytes k) (drop (l.start + 2) s)) →
    SameMeaning rules s (stored (l.start + 2) g s) n
unfolding header-well
same-fields rules s e i {l} p {k} kind g long agree =
    let it = place_inside rules s i p in
    let m = part_at s l in
    let is : it.well.kind ≡ Waveform k = it.kind ∙ kind in
    let same : SameFields (cells k) g (fixed_part (Waveform k) m) = rw (rw kind at (fixed-there rules s i p)) agree in
    let all = whole k m it.well is g long same in
    let fits : 2 + length g ≤ length m = omega (arith, long, rw is at (well-least m it.well)) in
    let put = with-header k m it.well is g long same in
    let kind-of : (u : WellFormed rules m) → u.kind ≡ Waveform k = λ u. cc (u.known, it.well.known, is) in
    replaced-same s e i p 2 g fits (header-well k m it.well is g long same) (header-id k m it.well is g long same)
    (λ u. rw (kind-of u, put) (other-record k m all g long same)) (λ u. rw (kind-of u, put) (other-normal k m all g long same))

-- no field of an aligned header starts in its filler
pub no-field-there : (rules : Rules) (s : List ℕ) (i : ℕ) {l : Located} → place rules s i ≡ answered l → l.kind ≡ Waveform Aligned →
    map (field_of rules s i) filler ≡ map (λ (o : ℕ). number 20) filler
unfolding field_of
no-field-there rules s i {l} p kind = rw (p, kind) (none_in_filler (fixed_part (Waveform Aligned) (part_at s l)))
