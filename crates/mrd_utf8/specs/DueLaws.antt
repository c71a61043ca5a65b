-- What is due after one octet, by where the octet lies.
-- Assumes nothing.
use Rattle.std.specs.Prelude.{ℕ, zero, suc, ◌-◌, ◌≤◌, ◌<◌, ◌≡◌, refl, Bool, true, ◌&&◌, List, [], ◌∷◌, ◌++◌, leb, ltb, eqb, take, drop}
use Rattle.std.proofs.Common.{arith, sym, ap, ◌∙◌, leb-true, ltb-true, ne_eqb, take-append-drop}
use Rattle.mrd_logic.specs.Choice.{pick, both}
use Rattle.mrd_utf8.specs.Utf8.{Range, ◌to◌, inside, rows}
use Rattle.mrd_utf8.specs.Fold.{never, begun, next, done}
use Rattle.mrd_utf8.specs.FoldLaws.{is_inside, below, above}
use Rattle.mrd_utf8.specs.Due.{awaited}

-- the first ranges of these rows all end below n; all begin at n or above
abbrev pub end_below : ℕ → List (List Range) → Bool
end_below n [] = true
end_below n ([] ∷ rest) = end_below n rest
end_below n ((lo to hi ∷ row) ∷ rest) = ltb hi n && end_below n rest

abbrev pub begin_from : ℕ → List (List Range) → Bool
begin_from n [] = true
begin_from n ([] ∷ rest) = begin_from n rest
begin_from n ((lo to hi ∷ row) ∷ rest) = leb n lo && begin_from n rest

-- rows that end below an octet do not take it, nor do rows that begin above it
begun-past : (n b : ℕ) (passed rest : List (List Range)) → end_below n passed ≡ true → n ≤ b → begun (passed ++ rest) b ≡ begun rest b
unfolding begun
begun-past n b [] rest e h = refl
begun-past n b ([] ∷ passed) rest e h = begun-past n b passed rest e h
begun-past n b ((lo to hi ∷ row) ∷ passed) rest e h =
    let p = both (ltb hi n) (end_below n passed) e in
    rw (above lo hi b (omega (arith, ltb-true hi n p.0))) (begun-past n b passed rest p.1 h)

begun-before : (n b : ℕ) (rest : List (List Range)) → begin_from n rest ≡ true → b < n → begun rest b ≡ never
unfolding begun
begun-before n b [] e h = refl
begun-before n b ([] ∷ rest) e h = begun-before n b rest e h
begun-before n b ((lo to hi ∷ row) ∷ rest) e h =
    let p = both (leb n lo) (begin_from n rest) e in
    rw (below lo hi b (omega (arith, leb-true n lo p.0))) (begun-before n b rest p.1 h)

begun-drop : (k lo b : ℕ) → end_below lo (take k rows) ≡ true → lo ≤ b → begun rows b ≡ begun (drop k rows) b
begun-drop k lo b e h =
    ap (λ (l : List (List Range)). begun l b) (sym (take-append-drop k rows)) ∙ begun-past lo b (take k rows) (drop k rows) e h

-- an octet in the first range of the row after the first k rows
pub first_in : (k lo hi b : ℕ) {row : List Range} {rest : List (List Range)} → drop k rows ≡ (lo to hi ∷ row) ∷ rest → end_below lo (take k rows) ≡ true →
    lo ≤ b → b ≤ hi → begun rows b ≡ row
unfolding begun
first_in k lo hi b {row} {rest} e p l h =
    begun-drop k lo b p l ∙ ap (λ (l : List (List Range)). begun l b) e ∙ ap (λ (t : Bool). pick t row (begun rest b)) (is_inside lo hi b l h)

-- an octet between the first k rows and the others
pub first_out : (k lo hi b : ℕ) → end_below lo (take k rows) ≡ true → begin_from hi (drop k rows) ≡ true → lo ≤ b → b < hi → begun rows b ≡ never
first_out k lo hi b p q l h = begun-drop k lo b p l ∙ begun-before hi b (drop k rows) q h

-- where nothing is due a character begins, and where some octets are, the first of them comes or a fault
pub next_none : (n lo hi b : ℕ) → n ≡ 0 → next (awaited n lo hi) b ≡ begun rows b
unfolding next
next_none zero lo hi b e = refl
next_none (suc n) lo hi b e = absurd (omega arith)

pub next_due : (n lo hi b : ℕ) → (n ≡ 0 → ⊥) → next (awaited n lo hi) b ≡ pick (inside (lo to hi) b) (awaited (n - 1) 0x80 0xBF) never
unfolding next
next_due zero lo hi b some = absurd (some refl)
next_due (suc zero) lo hi b some = refl
next_due (suc (suc n)) lo hi b some =
    let less : suc (suc n) - 1 ≡ suc n = omega arith in
    rw less

-- so one below the range, above it and inside it
pub next-below : (n lo hi b : ℕ) → (n ≡ 0 → ⊥) → b < lo → next (awaited n lo hi) b ≡ never
next-below n lo hi b some h = next_due n lo hi b some ∙ rw (below lo hi b h)

pub next-above : (n lo hi b : ℕ) → (n ≡ 0 → ⊥) → hi < b → next (awaited n lo hi) b ≡ never
next-above n lo hi b some h = next_due n lo hi b some ∙ rw (above lo hi b h)

pub next-inside : (n lo hi b : ℕ) → (n ≡ 0 → ⊥) → lo ≤ b → b ≤ hi → next (awaited n lo hi) b ≡ awaited (n - 1) 0x80 0xBF
next-inside n lo hi b some l h = next_due n lo hi b some ∙ rw (is_inside lo hi b l h)

-- the test whether nothing is due
pub done-awaited : (n lo hi : ℕ) → eqb n 0 ≡ done (awaited n lo hi)
done-awaited zero lo hi = refl
done-awaited (suc n) lo hi = ne_eqb (suc n) 0 (λ e. omega arith)

pub none-awaited : (n lo hi : ℕ) → n ≡ 0 → awaited n lo hi ≡ []
none-awaited zero lo hi e = refl
none-awaited (suc n) lo hi e = absurd (omega arith)
