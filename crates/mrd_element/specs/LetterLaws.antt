-- The letters of a table, stretch by stretch: which stretches are filled by elements of one width and letter, and that past the end none starts; and those
-- of a waveform's header, field by field.
-- Assumes nothing.
use Rattle.std.specs.Prelude.{ℕ, zero, suc, ◌+◌, ◌-◌, ◌*◌, ◌≤◌, ◌<◌, ◌≡◌, refl, ◌⊎◌, Bool, true, false, ◌&&◌, ◌||◌, List, [], ◌∷◌, T, leb, eqb}
use Rattle.std.proofs.Common.{add-zero, add-suc, suc-add, suc-mul, arith, sym, ap, ◌∙◌, inl, inr, ⊎_elim, leb→le, eqb→eq, eqb-true, eq-eqb, ne_eqb}
use Rattle.std.proofs.Math.Facts.{and_yes}
use Rattle.std.proofs.lemmas.Bool.{eqb-false}
use Rattle.mrd_logic.specs.Choice.{pick, either}
use Rattle.mrd_logic.specs.Every.{Every}
use Rattle.mrd_format.specs.Elements.{ElementType, u16, u32, u64, i32, f32, width, Run}
use Rattle.mrd_format.specs.declared.rules.Layout.{Layout}
use Rattle.mrd_format.specs.declared.rules.WaveformOffsets.{WaveformOffsets}
use Rattle.mrd_format.specs.Waveform.{Field, type_of, offset, offsets_of}
use Rattle.mrd_format.specs.Waveform.{offset_in}
use Rattle.mrd_format.proofs.WaveformLaws.{offset_in_lem}
use Rattle.mrd_element.specs.Element.{Start, starts, none, starts_among, type_at}
use Rattle.mrd_element.specs.Letters.{letter_of, letter_among}

-- whether every run of a table ends within n bytes
abbrev pub within : ℕ → List Run → Bool
within n [] = true
within n (r ∷ rs) = leb (r.offset + r.count * width r.type) n && within n rs

-- an element that starts among n ends among them
among_inside : (n w from at : ℕ) → starts_among n w from at ≡ true → at + w ≤ from + n * w
among_inside zero w from at e = absurd (eqb-false 0 0 (sym e) refl)
among_inside (suc n) w from at e =
    ⊎_elim
    (λ here. omega (arith, eqb-true at from here, suc-mul n w))
    (λ later. omega (arith, among_inside n w (from + w) at later, suc-mul n w))
    (either (eqb at from) (starts_among n w (from + w) at) e)

pub picked : (b : Bool) (x y z : Start) → pick b x y ≡ z → ((b ≡ true) × (x ≡ z)) ⊎ (y ≡ z)
picked true x y z e = inl (refl, e)
picked false x y z e = inr e

-- an element that starts in a table ends within it
pub starts-inside : (n : ℕ) (t : List Run) (at : ℕ) (e : ElementType) → T (within n t) → type_at t at ≡ starts e → at + width e ≤ n
unfolding type_at
starts-inside n [] at e inside found =
    let z : ◌≡◌ {A = ℕ} 0 1 = cc in
    absurd (omega arith)
starts-inside n (r ∷ rs) at e inside found =
    let end = r.offset + r.count * width r.type in
    let ends = and_yes (leb end n) (within n rs) inside in
    ⊎_elim
    (λ here.
    let type : r.type ≡ e = cc in
    rw (← type) (omega (arith, among_inside r.count (width r.type) r.offset at here.0, leb→le end n ends.0)))
    (λ later. starts-inside n rs at e ends.1 later)
    (picked (starts_among r.count (width r.type) r.offset at) (starts r.type) (type_at rs at) (starts e) found)

-- past a table's end no element starts
pub none-past : (n : ℕ) (t : List Run) (at : ℕ) → T (within n t) → n ≤ at → type_at t at ≡ none
none-past n t at inside past = by-start (type_at t at) refl
  where
    wide : (e : ElementType) → 0 < width e
    wide u16 = omega arith
    wide u32 = omega arith
    wide u64 = omega arith
    wide i32 = omega arith
    wide f32 = omega arith

    by-start : (s : Start) → type_at t at ≡ s → type_at t at ≡ none
    by-start (starts e) found = absurd (omega (arith, starts-inside n t at e inside found, wide e))
    by-start none found = found

-- whether a table has, in n bytes from an offset on, the elements of one width from `first` on
abbrev pub fills : ℕ → ℕ → List Run → ℕ → ℕ → ℕ → Bool
fills zero at t first w letter = true
fills (suc n) at t first w letter = eqb (letter_among first w letter at) (letter_of (type_at t at)) && fills n (suc at) t first w letter

-- then each of their letters is the table's
fills-at :
    (n from i : ℕ) (t : List Run) (first w letter : ℕ) → T (fills n from t first w letter) → i < n → letter_among first w letter (from + i) ≡ letter_of
    (type_at t (from + i))
fills-at zero from i t first w letter h small = absurd (omega arith)
fills-at (suc n) from zero t first w letter h small =
    rw add-zero (eqb→eq _ _ (and_yes (eqb (letter_among first w letter from) (letter_of (type_at t from))) _ h).0)
fills-at (suc n) from (suc i) t first w letter h small =
    let later = (and_yes (eqb (letter_among first w letter from) (letter_of (type_at t from))) _ h).1 in
    rw (add-suc, ← suc-add) (fills-at n (suc from) i t first w letter later (omega arith))

-- a letter told among elements that fill a stretch, of an offset from its first to its last byte, is the table's
pub letter_among_lem :
    (first w letter last : ℕ) (t : List Run) (at r : ℕ) → r ≡ letter_among first w letter at → first ≤ at → at ≤ last → T
    (fills (1 + last - first) first t first w letter) → r ≡ letter_of (type_at t at)
letter_among_lem first w letter last t at r told low high h =
    let e : first + (at - first) ≡ at = omega arith in
    told ∙ rw e at (fills-at (1 + last - first) first (at - first) t first w letter h (omega arith))

-- the elements of a waveform's header, one after the other in any layout: what starts at `at` where it is the offset of f, and of none of those before
abbrev pub starts_past : Layout → List Field → ℕ → Start → Start
starts_past l [] at found = found
starts_past l (g ∷ gs) at found = pick (eqb at (offset l g) || false) (starts (type_of g)) (starts_past l gs at found)

-- at none of the offsets that the code has, nothing of them starts
module _ (l : Layout) {w : WaveformOffsets} (e : w ≡ offsets_of l) (at : ℕ) where
  pub past_all : (gs : List Field) → Every (λ (g : Field). at ≡ offset_in w g → ⊥) gs → (found : Start) → starts_past l gs at found ≡ found
  past_all [] others found = refl
  past_all (g ∷ gs) others found =
      rw (ne_eqb at (offset l g) (λ same. others.0 (same ∙ sym (offset_in_lem l g e)))) (past_all gs others.1 found)

  -- so what starts is the element at whose offset it is
  pub letter-here : (gs : List Field) (f : Field) (rest : Start) → Every (λ (g : Field). at ≡ offset_in w g → ⊥) gs → at ≡ offset_in w f →
      letter_of (starts_past l gs at (pick (eqb at (offset l f) || false) (starts (type_of f)) rest)) ≡ letter_of (starts (type_of f))
  letter-here gs f rest others here =
      ap letter_of (past_all gs others _) ∙ rw (eq-eqb at (offset l f) (here ∙ offset_in_lem l f e))
