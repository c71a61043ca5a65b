-- The octets that the fold accepts are those of the syntax, and no others; and a text read in parts.
-- Assumes nothing.
use Rattle.std.specs.Prelude.{ℕ, suc, ◌≤◌, ◌<◌, ◌≡◌, refl, ◌↔◌, ◌⊎◌, Bool, false, ◌&&◌, ◌||◌, leb}
use Rattle.std.proofs.Common.{arith, sym, ap, ◌∙◌, subst, inl, inr, leb-true, le-leb}
use Rattle.std.proofs.Math.Bool.{true, and-false}
use Rattle.std.proofs.lemmas.Bool.{false≢true, lt-leb}
use mathlib.Core.List.{List, [], ◌∷◌, ◌++◌}
use Rattle.mrd_logic.specs.Choice.{pick, both, either}
use Rattle.mrd_utf8.specs.Utf8.{Range, ◌to◌, inside, rows, fits, fits_one, Utf8, empty, character}
use Rattle.mrd_utf8.specs.Fold.{never, begun, next, run, done, utf8_of}

-- no octets are a text
pub utf8-empty : utf8_of [] ≡ true
unfolding utf8_of
utf8-empty = refl

-- octets read in two parts
pub run-append : (due : List Range) (a b : List ℕ) → run due (a ++ b) ≡ run (run due a) b
run-append due [] b = refl
run-append due (x ∷ a) b = run-append (next due x) a b

-- an octet in the range, and one that is not
pub is_inside : (lo hi b : ℕ) → lo ≤ b → b ≤ hi → inside (lo to hi) b ≡ true
is_inside lo hi b l h = rw (le-leb lo b l) (le-leb b hi h)

pub below : (lo hi b : ℕ) → b < lo → inside (lo to hi) b ≡ false
below lo hi b h = rw (lt-leb lo b h)

pub above : (lo hi b : ℕ) → hi < b → inside (lo to hi) b ≡ false
above lo hi b h = rw (lt-leb b hi h) (and-false (leb lo b))

inside-least : (lo hi b : ℕ) → inside (lo to hi) b ≡ true → lo ≤ b
inside-least lo hi b e = leb-true lo b (both (leb lo b) (leb b hi) e).0

never-inside : (b : ℕ) → inside (1 to 0) b ≡ false
never-inside b = by-test (inside (1 to 0) b) refl
  where
    by-test : (t : Bool) → inside (1 to 0) b ≡ t → t ≡ false
    by-test false e = refl
    by-test true e = let h = both (leb 1 b) (leb b 0) e in absurd (omega (arith, leb-true 1 b h.0, leb-true b 0 h.1))

-- after a fault nothing helps
pub next-never : (b : ℕ) → next never b ≡ never
unfolding next
next-never b = rw never-inside

pub run-never : (s : List ℕ) → run never s ≡ never
run-never [] = refl
run-never (b ∷ s) = ap (λ (due : List Range). run due s) (next-never b) ∙ run-never s

-- octets that fit what is due lead to the end of the character
pub run_fits : (due : List Range) (c s : List ℕ) → fits due c ≡ true → run due (c ++ s) ≡ run [] s
unfolding next
run_fits [] [] s e = refl
run_fits [] (b ∷ c) s e = absurd (false≢true e)
run_fits (r ∷ row) [] s e = absurd (false≢true e)
run_fits (r ∷ row) (b ∷ c) s e =
    let h = both (inside r b) (fits row c) e in
    ap (λ (t : Bool). run (pick t row never) (c ++ s)) h.0 ∙ run_fits row c s h.1

-- the first ranges of the rows ascend from `least` on, so that no octet begins two rows
ascend : ℕ → List (List Range) → Bool
ascend least [] = true
ascend least ([] ∷ rest) = false
ascend least (((lo to hi) ∷ row) ∷ rest) = leb least lo && (leb lo hi && ascend (suc hi) rest)

rows-ascend : ascend 0 rows ≡ true
unfolding ascend
rows-ascend = refl

-- octets that fit one of the rows lead from the character's first octet to its end
module _ (b : ℕ) (c s : List ℕ) where
  begun-fits : (least : ℕ) (rest : List (List Range)) → ascend least rest ≡ true → fits_one rest (b ∷ c) ≡ true →
      (least ≤ b) × (run (begun rest b) (c ++ s) ≡ run [] s)
  unfolding ascend begun
  begun-fits least [] a e = absurd (false≢true e)
  begun-fits least ([] ∷ rest) a e = absurd (false≢true a)
  begun-fits least (((lo to hi) ∷ row) ∷ rest) a e =
      let p = both (leb least lo) (leb lo hi && ascend (suc hi) rest) a in
      let q = both (leb lo hi) (ascend (suc hi) rest) p.1 in
      by_row (begun-fits (suc hi) rest q.1) (leb-true least lo p.0) (leb-true lo hi q.0) (either (fits (lo to hi ∷ row) (b ∷ c)) (fits_one rest (b ∷ c)) e)
    where
      by_row : (fits_one rest (b ∷ c) ≡ true → (suc hi ≤ b) × (run (begun rest b) (c ++ s) ≡ run [] s)) → least ≤ lo → lo ≤ hi →
          (fits (lo to hi ∷ row) (b ∷ c) ≡ true) ⊎ (fits_one rest (b ∷ c) ≡ true) →
          (least ≤ b) × (run (pick (inside (lo to hi) b) row (begun rest b)) (c ++ s) ≡ run [] s)
      by_row later l h (inl here) =
          let p = both (inside (lo to hi) b) (fits row c) here in
          (omega (arith, inside-least lo hi b p.0), rw p.0 (run_fits row c s p.1))
      by_row later l h (inr there) =
          let p = later there in
          (omega (arith, p.0), rw (above lo hi b p.0) p.1)

-- what follows a first octet and fits what is then due makes one of the rows with it
begun-one : (rest : List (List Range)) (b : ℕ) (c : List ℕ) → fits (begun rest b) c ≡ true → fits_one rest (b ∷ c) ≡ true
unfolding begun
begun-one [] b [] e = absurd (false≢true e)
begun-one [] b (x ∷ c) e = absurd (false≢true (rw never-inside at e))
begun-one ([] ∷ rest) b c e = begun-one rest b c e
begun-one ((r ∷ row) ∷ rest) b c e = by-test (begun-one rest b c) (inside r b) e
  where
    by-test : (fits (begun rest b) c ≡ true → fits_one rest (b ∷ c) ≡ true) → (t : Bool) → fits (pick t row (begun rest b)) c ≡ true →
        ((t && fits row c) || fits_one rest (b ∷ c)) ≡ true
    by-test later true e = rw e
    by-test later false e = later e

-- octets that fit what is due, and then UTF-8
record Ends (due : List Range) (s : List ℕ) : Type 0 where
  here : List ℕ
  after : List ℕ
  whole : s ≡ here ++ after
  fit : fits due here ≡ true
  utf8 : Utf8 after

-- a text that leaves nothing due is such
done-ends : (due : List Range) (s : List ℕ) → done (run due s) ≡ true → Ends due s
unfolding next
done-ends [] [] e = record { here = []; after = []; whole = refl; fit = refl; utf8 = empty }
done-ends (r ∷ row) [] e = absurd (false≢true e)
done-ends [] (b ∷ s) e =
    let h : Ends (begun rows b) s = done-ends (begun rows b) s e in
    let one : Utf8 (b ∷ (h.here ++ h.after)) = character (b ∷ h.here) (begun-one rows b h.here h.fit) h.utf8 in
    record { here = []; after = b ∷ s; whole = refl; fit = refl; utf8 = subst (λ (t : List ℕ). Utf8 (b ∷ t)) (sym h.whole) one }
done-ends (r ∷ row) (b ∷ s) e = by-test (done-ends row s) (inside r b) refl e
  where
    by-test : (done (run row s) ≡ true → Ends row s) → (t : Bool) → inside r b ≡ t → done (run (pick t row never) s) ≡ true → Ends (r ∷ row) (b ∷ s)
    by-test later true q e =
        let h : Ends row s = later e in
        record { here = b ∷ h.here; after = h.after; whole = ap (λ (t : List ℕ). b ∷ t) h.whole; fit = rw q h.fit; utf8 = h.utf8 }
    by-test later false q e = absurd (false≢true (rw run-never at e))

accepted : (s : List ℕ) → done (run [] s) ≡ true → Utf8 s
accepted s e = let h = done-ends [] s e in by-here h.here h.after h.whole h.fit h.utf8
  where
    by-here : (c t : List ℕ) → s ≡ c ++ t → fits [] c ≡ true → Utf8 t → Utf8 s
    by-here [] t w f u = subst Utf8 (sym w) u
    by-here (b ∷ c) t w f u = absurd (false≢true f)

run-character : (c s : List ℕ) → fits_one rows c ≡ true → run [] (c ++ s) ≡ run [] s
unfolding next
run-character [] s f = absurd (false≢true f)
run-character (b ∷ c) s f = (begun-fits b c s 0 rows rows-ascend f).1

accepts : {s : List ℕ} → Utf8 s → done (run [] s) ≡ true
accepts empty = refl
accepts (character c {s} f u) = ap done (run-character c s f) ∙ accepts u

-- the fold accepts the texts of the syntax, and no others
pub utf8-exactly : (s : List ℕ) → (utf8_of s ≡ true) ↔ Utf8 s
unfolding utf8_of
utf8-exactly s = (accepted s, λ u. accepts u)
