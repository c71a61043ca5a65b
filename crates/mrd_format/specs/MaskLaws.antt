-- The count of ones in the channel mask, word by word; that a mask is all zero exactly when it has no ones; that its answer is told by two numbers;
-- and that no check looks at it.
-- Assumes nothing.
use Rattle.std.specs.Prelude.{ℕ, zero, suc, ◌+◌, ◌-◌, ◌*◌, ◌/◌, ◌^◌, ◌≤◌, ◌<◌, ◌≡◌, refl, ◌&&◌, List, [], ◌∷◌, eqb}
use Rattle.std.proofs.Common.{arith, sym, ◌∙◌, ne_eqb}
use Rattle.std.specs.Int.Count.{ones, ones_step}
use Rattle.std.proofs.lemmas.Nat.{ones-le}
use Rattle.mrd_numbers.specs.Little.{num}
use Rattle.mrd_format.specs.Elements.{elements, elements_from}
use Rattle.mrd_logic.specs.Choice.{pick}
use Rattle.mrd_logic.specs.Every.{Every}
use Rattle.mrd_format.specs.declared.mask.Mask.{Mask}
use Rattle.mrd_format.specs.declared.mask.Mask.TheVariants.{NotStated, Agrees, Differs}
use Rattle.mrd_format.specs.Acquisition.{Field, version, number-of-samples, available-channels, active-channels, channel-mask, discard-pre, discard-post}
use Rattle.mrd_format.specs.Acquisition.{layout, get, ones_of, all_zero, mask_of, mask_number, mask_ones, checks}

-- after i words: n ones counted, at most 64 a word, and with those of the words that are left they are all
pub record Counted (h : List ℕ) (i n : ℕ) : Type 0 where
  pub within : i ≤ 16
  pub small : n ≤ 64 * i
  pub sum : n + ones_of (elements_from (16 - i) 8 (40 + i * 8) h) ≡ ones_of (elements (layout channel-mask) h)

pub start : (h : List ℕ) → Counted h 0 0
start h = record { within = omega arith; small = omega arith; sum = omega arith }

-- the words left are the next word and those after it
next_word : (h : List ℕ) (k at : ℕ) → 0 < k →
    ones_of (elements_from k 8 at h) ≡ ones (num 8 h at) + ones_of (elements_from (k - 1) 8 (at + 8) h)
next_word h zero at p = omega arith
next_word h (suc k) at p = let less : suc k - 1 ≡ k = omega arith in rw less

pub step : {h : List ℕ} {i n : ℕ} → Counted h i n → i < 16 → num 8 h (40 + i * 8) < 2 ^ 64 →
    Counted h (i + 1) (n + ones (num 8 h (40 + i * 8)))
step {h} {i} {n} c p fits =
    let few : ones (num 8 h (40 + i * 8)) ≤ 64 = ones-le 64 (num 8 h (40 + i * 8)) fits in
    let at : 40 + (i + 1) * 8 ≡ 40 + i * 8 + 8 = omega arith in
    let left : 16 - (i + 1) ≡ 16 - i - 1 = omega arith in
    let next : ones_of (elements_from (16 - i) 8 (40 + i * 8) h) ≡
    ones (num 8 h (40 + i * 8)) + ones_of (elements_from (16 - i - 1) 8 (40 + i * 8 + 8) h) = next_word h (16 - i) (40 + i * 8) (omega arith) in
    record { within = omega arith; small = omega arith; sum = rw (at, left) (omega (arith, c.sum)) }

pub finish : {h : List ℕ} {i n : ℕ} → Counted h i n → 16 ≤ i → n ≡ ones_of (elements (layout channel-mask) h)
finish {h} {i} {n} c p =
    let none : 16 - i ≡ 0 = omega arith in
    let all : n + ones_of (elements_from 0 8 (40 + i * 8) h) ≡ ones_of (elements (layout channel-mask) h) = rw none at c.sum in
    omega (arith, all)

-- only zero has no ones
no_ones : (d n : ℕ) → n ≤ d → ones n ≡ 0 → n ≡ 0
no_ones zero n h e = omega arith
no_ones (suc d) n h e =
    let rest : n / 2 ≡ 0 = no_ones d (n / 2) (omega arith) (omega (arith, ones_step n)) in
    omega (arith, ones_step n)

zero_ones : (w : ℕ) → eqb w 0 ≡ eqb (ones w) 0
unfolding ones
zero_ones zero = refl
zero_ones (suc w) =
    ne_eqb (suc w) 0 (λ e. omega arith) ∙
    sym (ne_eqb (ones (suc w)) 0 (λ e. let z : suc w ≡ 0 = no_ones (suc w) (suc w) (omega arith) e in omega arith))

-- 'all zero' is 'no ones'
pub all-zero : (ws : List ℕ) → all_zero ws ≡ eqb (ones_of ws) 0
all-zero [] = refl
all-zero (w ∷ ws) = rw (zero_ones w, all-zero ws) (both (ones w) (ones_of ws))
  where
    both : (a b : ℕ) → (eqb a 0 && eqb b 0) ≡ eqb (a + b) 0
    both zero b = let less : 0 + b ≡ b = omega arith in rw less
    both (suc a) b = rw (ne_eqb (suc a) 0 (λ e. omega arith)) (sym (ne_eqb (suc a + b) 0 (λ e. omega arith)))

-- a mask of zeros; three ones beside three active channels, and beside two; and a one beside none
pub mask_examples :
    (mask_of (0 ∷ 0 ∷ []) 0 ≡ NotStated) × (mask_of (5 ∷ 1 ∷ []) 3 ≡ Agrees 3) × (mask_of (5 ∷ 1 ∷ []) 2 ≡ Differs 3) × (mask_of (0 ∷ 8 ∷ []) 0 ≡ Differs 1)
unfolding ones
mask_examples = (refl, refl, refl, refl)

-- the answer with this number and so many ones
abbrev pub answer_with : ℕ → ℕ → Mask
answer_with k n = pick (eqb k 1) NotStated (pick (eqb k 2) (Agrees n) (Differs n))

-- so the number of an answer and the ones counted tell which answer it is
pub told : (a : Mask) → answer_with (mask_number a) (mask_ones a) ≡ a
told NotStated = refl
told (Agrees n) = refl
told (Differs n) = refl

-- the fields that the checks look at; the mask is none of them
abbrev pub looked_at : List Field
looked_at = version ∷ number-of-samples ∷ available-channels ∷ active-channels ∷ discard-pre ∷ discard-post ∷ []

-- headers that agree in these pass the same checks, whatever their masks
pub checks_look_at : (g h : List ℕ) → Every (λ (f : Field). get f g ≡ get f h) looked_at → checks g ≡ checks h
unfolding checks
checks_look_at g h e =
    rw (e.0, e.1.0, e.1.1.0, e.1.1.1.0, e.1.1.1.1.0, e.1.1.1.1.1.0)
