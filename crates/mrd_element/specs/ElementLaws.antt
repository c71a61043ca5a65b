-- What a letter says of the header element at an offset: that its bytes lie in the fixed part, and how they are read.
-- Assumes nothing.
use Rattle.std.specs.Prelude.{ℕ, ◌+◌, ◌≤◌, ◌≡◌, refl, List, [], ◌∷◌, ◌++◌, map, T, eqb, length}
use Rattle.std.proofs.Common.{arith, sym, ap, ◌∙◌}
use Rattle.mrd_logic.specs.Answer.{answered, number}
use Rattle.mrd_logic.specs.Choice.{pick}
use Rattle.mrd_numbers.specs.Little.{num}
use Rattle.mrd_format.specs.declared.kind.Kind.{Kind}
use Rattle.mrd_format.specs.declared.rules.Layout.TheVariants.{Packed, Aligned}
use Rattle.mrd_format.specs.Headers.{runs}
use Rattle.mrd_format.specs.Kinds.{form_of, fixed_size}
use Rattle.mrd_format.specs.Elements.{ElementType, u16, u32, u64, i32, f32, width}
use Rattle.mrd_element.specs.Element.{Start, starts, none, type_at, element_at, value_of, read_at, element_of}
use Rattle.mrd_element.specs.Letters.{letter_of}
use Rattle.mrd_element.specs.LetterLaws.{within, starts-inside}

-- what a letter stands for
abbrev pub meant : ℕ → Start
meant n =
    pick (eqb n 72) (starts u16)
    (pick (eqb n 73) (starts u32)
    (pick (eqb n 81) (starts u64) (pick (eqb n 105) (starts i32) (pick (eqb n 102) (starts f32) none))))

meant_letter : (s : Start) → meant (letter_of s) ≡ s
meant_letter (starts u16) = refl
meant_letter (starts u32) = refl
meant_letter (starts u64) = refl
meant_letter (starts i32) = refl
meant_letter (starts f32) = refl
meant_letter none = refl

-- a letter stands for one start only
start-by_letter : (s t : Start) → letter_of s ≡ letter_of t → s ≡ t
start-by_letter s t e = sym (meant_letter s) ∙ ap meant e ∙ meant_letter t

-- every element of a kind's header ends within the fixed part
table-within : (k : Kind) → T (within (fixed_size k) (runs (form_of k).cells))
table-within Kind.ConfigurationName = tt
table-within Kind.ConfigurationText = tt
table-within Kind.HeaderText = tt
table-within Kind.Close = tt
table-within Kind.Text = tt
table-within Kind.Acquisition = tt
table-within Kind.Image = tt
table-within (Kind.Waveform Packed) = tt
table-within (Kind.Waveform Aligned) = tt

-- an element of this type starts at the offset
pub record FoundElement (k : Kind) (h : List ℕ) (at : ℕ) (e : ElementType) : Type 0 where
  pub inside : at + width e ≤ length h
  pub value : element_of k h at ≡ answered (value_of e (num (width e) h at))

pub found-by_letter :
    (k : Kind) (h : List ℕ) (at : ℕ) (e : ElementType) → length h ≡ fixed_size k → letter_of
    (element_at k at) ≡ letter_of (starts e) → FoundElement k h at e
unfolding element_of
found-by_letter k h at e whole letter =
    let start : element_at k at ≡ starts e = start-by_letter (element_at k at) (starts e) letter in
    record { inside = omega (arith, starts-inside (fixed_size k) (runs (form_of k).cells) at e (table-within k) start); value = ap (λ (s : Start). read_at s h at) start }

-- no element starts at the offset
pub absent-by_letter : (k : Kind) (h : List ℕ) (at : ℕ) → meant (letter_of (element_at k at)) ≡ none → element_of k h at ≡ number 20
unfolding element_of
absent-by_letter k h at means = ap (λ (s : Start). read_at s h at) (sym (meant_letter (element_at k at)) ∙ means)

-- 'Bytes 2 to 7 and 38 to 39 carry nothing' in an aligned waveform's header
abbrev pub filler : List ℕ
filler = 2 ∷ 3 ∷ 4 ∷ 5 ∷ 6 ∷ 7 ∷ 38 ∷ 39 ∷ []

-- and no element starts there
pub none_in_filler : (h : List ℕ) → map (element_of (Kind.Waveform Aligned) h) filler ≡ map (λ (o : ℕ). number 20) filler
unfolding element_of type_at
none_in_filler h = refl

-- 'physiology stamps 22, three u32': each is an element of its own, and inside them none starts. An image's 8-byte length at 198 is no header
-- element
pub elements_of_their_own : map
    (element_at Kind.Acquisition) (22 ∷ 24 ∷ 26 ∷ 30 ∷ []) ++ map (element_at Kind.Image)
    (194 ∷ 198 ∷ []) ≡ starts u32 ∷ none ∷ starts u32 ∷ starts u32 ∷ starts u32 ∷ none ∷ []
unfolding type_at
elements_of_their_own = refl
