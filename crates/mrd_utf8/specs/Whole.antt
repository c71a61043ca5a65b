-- Whole characters at the front of octets: of four octets, of a block of ASCII, and of one part after the other.
-- Assumes nothing.
use Rattle.std.specs.Prelude.{ℕ, suc, ◌+◌, ◌-◌, ◌≤◌, ◌<◌, ◌≡◌, refl, true, List, [], ◌∷◌, ◌++◌, length, get_or, take, drop}
use Rattle.std.proofs.Common.{le_refl, arith, sym, ap, ◌∙◌, subst, append-nil, length-drop, length-append, take-append-drop, drop-cons, take_all, take-add}
use Rattle.std.proofs.Math.Decide.{dec_lt}
use Rattle.std.proofs.lemmas.List.{take-append-le}
use Rattle.std.proofs.Math.Seq.{take-append_seam}
use Rattle.mrd_utf8.specs.Utf8.{Range, ◌to◌, inside, tail, rows, fits}
use Rattle.mrd_utf8.specs.Fold.{begun, next, run}
use Rattle.mrd_utf8.specs.FoldLaws.{run-append, run_fits}
use Rattle.mrd_utf8.specs.Due.{awaited}
use Rattle.mrd_utf8.specs.DueLaws.{first_in}

-- the first n octets of s are whole characters
pub record Whole (n : ℕ) (s : List ℕ) : Type 0 where
  pub within : n ≤ length s
  pub ends : run [] (take n s) ≡ []

pub whole-none : (s : List ℕ) → Whole 0 s
whole-none s = record { within = omega arith; ends = refl }

-- then the others are read where nothing is due
pub whole_read : {n : ℕ} {s : List ℕ} → Whole n s → {start due : List Range} → start ≡ [] → due ≡ run start (take (length s - n) (drop n s)) → due ≡ run [] s
whole_read {n} {s} w z e =
    let rest : take (length s - n) (drop n s) ≡ drop n s = take_all (length s - n) (drop n s) (simp length-drop (omega arith)) in
    e ∙ ap (run _) rest ∙ ap (λ (due : List Range). run due (drop n s)) (z ∙ sym w.ends) ∙ sym (run-append [] (take n s) (drop n s)) ∙
    ap (run []) (take-append-drop n s)

-- whole characters, and then those of a part that begins after them
pub whole_part : {i n : ℕ} {s : List ℕ} → Whole i s → (m : ℕ) → Whole n (take m (drop i s)) → Whole (i + n) s
whole_part {i} {n} {s} w m v =
    let t = drop i s in
    let all : length (take m t) + length (drop m t) ≡ length t = simp length-append at (ap length (take-append-drop m t)) in
    let part : take n (take m t) ≡ take n t = sym (take-append-le n (take m t) (drop m t) v.within) ∙ ap (take n) (take-append-drop m t) in
    record {
      within = omega (arith, length-drop i s);
      ends =
          ap (run []) (take-add i n s) ∙ run-append [] (take i s) (take n t) ∙ ap (λ (due : List Range). run due (take n t)) w.ends ∙
          ap (run []) (sym part) ∙ v.ends;
    }

-- four octets of s from i on
four : (s : List ℕ) (i : ℕ) → i + 4 ≤ length s → take 4 (drop i s) ≡ get_or s i 0 ∷ get_or s (i + 1) 0 ∷ get_or s (i + 2) 0 ∷ get_or s (i + 3) 0 ∷ []
four s i h =
    ap (take 4) (from i (i + 1) (omega arith) (omega arith) (from (i + 1) (i + 2) (omega arith) (omega arith)
    (from (i + 2) (i + 3) (omega arith) (omega arith) (from (i + 3) (i + 4) (omega arith) (omega arith) refl))))
  where
    from : (k next : ℕ) {t : List ℕ} → next ≡ suc k → k < length s → drop next s ≡ t → drop k s ≡ get_or s k 0 ∷ t
    from k next e l f = drop-cons s k 0 l ∙ ap (λ (t : List ℕ). get_or s k 0 ∷ t) (ap (λ (n : ℕ). drop n s) (sym e) ∙ f)

-- the same where the part is four octets
pub whole_four : {i n : ℕ} {s : List ℕ} → Whole i s → i + 4 ≤ length s →
    Whole n (get_or s i 0 ∷ get_or s (i + 1) 0 ∷ get_or s (i + 2) 0 ∷ get_or s (i + 3) 0 ∷ []) → Whole (i + n) s
whole_four {i} {n} {s} w h v = whole_part w 4 (subst (Whole n) (sym (four s i h)) v)

-- a first octet, and then octets that fit what is due after it
whole-fits : (a : ℕ) (c t : List ℕ) {due : List Range} → begun rows a ≡ due → fits due c ≡ true → Whole (suc (length c)) (a ∷ (c ++ t))
unfolding next
whole-fits a c t {due} e f =
    let front : take (length c) (c ++ t) ≡ c = take-append_seam c t in
    let fit : run due c ≡ [] = rw append-nil at (run_fits due c [] f) in
    record {
      within = simp length-append (omega arith);
      ends = ap (run (begun rows a)) front ∙ ap (λ (due : List Range). run due c) e ∙ fit;
    }

-- a character by its first octet, after which n octets are due
module _ (a : ℕ) (n lo hi : ℕ) (e : awaited n lo hi ≡ begun rows a) where
  pub whole_1 : (t : List ℕ) → n ≡ 0 → Whole 1 (a ∷ t)
  whole_1 t z = whole-fits a [] t (sym e ∙ ap (λ (n : ℕ). awaited n lo hi) z) refl

  module _ (b : ℕ) (i : inside (lo to hi) b ≡ true) where
    pub whole_2 : (t : List ℕ) → n ≡ 1 → Whole 2 (a ∷ b ∷ t)
    whole_2 t z = whole-fits a (b ∷ []) t (sym e ∙ ap (λ (n : ℕ). awaited n lo hi) z) (rw i)

    pub whole_3 : (c : ℕ) (t : List ℕ) → n ≡ 2 → inside tail c ≡ true → Whole 3 (a ∷ b ∷ c ∷ t)
    whole_3 c t z f = whole-fits a (b ∷ c ∷ []) t (sym e ∙ ap (λ (n : ℕ). awaited n lo hi) z) (rw (i, f))

    pub whole_4 : (c d : ℕ) (t : List ℕ) → n ≡ 3 → inside tail c ≡ true → inside tail d ≡ true → Whole 4 (a ∷ b ∷ c ∷ d ∷ t)
    whole_4 c d t z f g = whole-fits a (b ∷ c ∷ d ∷ []) t (sym e ∙ ap (λ (n : ℕ). awaited n lo hi) z) (rw (i, f, g))

-- no octet of s is above `high`
abbrev pub NoneAbove : ℕ → List ℕ → Type 0
NoneAbove high s = (j : ℕ) → j < length s → get_or s j 0 ≤ high

-- none of the first i octets is above `low`, and neither `low` nor the next octet is above `high`
pub none_above : {low high : ℕ} (s : List ℕ) (i : ℕ) → ((j : ℕ) → j < i → get_or s j 0 ≤ low) → low ≤ high → get_or s i 0 ≤ high →
    (j : ℕ) → j < i + 1 → get_or s j 0 ≤ high
none_above {low} {high} s i h l e j k = by_place (dec_lt j i)
  where
    by_place : Dec (j < i) → get_or s j 0 ≤ high
    by_place (yes before) = omega (arith, h j before)
    by_place (no not) = let here : j ≡ i = omega arith in rw here e

-- ASCII leaves nothing due
ascii_run : (high : ℕ) (s : List ℕ) → NoneAbove high s → high < 0x80 → run [] s ≡ []
unfolding next
ascii_run high [] a h = refl
ascii_run high (b ∷ s) a h =
    let first : begun rows b ≡ [] = first_in 0 0x00 0x7F b refl refl (omega arith) (omega (arith, a 0 (omega arith))) in
    ap (λ (due : List Range). run due s) first ∙ ascii_run high s (λ j l. a (suc j) (omega arith)) h

pub whole_ascii : (high : ℕ) (s : List ℕ) → NoneAbove high s → high < 0x80 → Whole (length s) s
whole_ascii high s a h =
    record { within = le_refl (length s); ends = ap (run []) (take_all (length s) s (le_refl (length s))) ∙ ascii_run high s a h }
