-- A record's place found in one walk: what is held on the way, and that it is the place asked for.
-- Assumes nothing.
use Rattle.std.specs.Prelude.{ℕ, zero, suc, pred, ◌+◌, ◌<◌, ◌≡◌, refl, List, [], ◌∷◌, eqb}
use Rattle.std.proofs.Common.{add-one, arith, sym, ap, ◌∙◌, subst, eq-eqb, ne_eqb}
use Rattle.mrd_format.specs.declared.kind.Kind.{Kind}
use Rattle.mrd_format.specs.declared.rules.Rules.{Rules}
use Rattle.mrd_cursor.specs.declared.cursor.Cursor.{Cursor}
use Rattle.mrd_logic.specs.Answer.{Answer, answered, number, unless_refused}
use Rattle.mrd_logic.specs.Choice.{pick}
use Rattle.mrd_judge.specs.Judge.{Judged, faulty, whole, judge}
use Rattle.mrd_cursor.specs.Cursors.{after, beginning}
use Rattle.mrd_stream.specs.Walk.{Trace, message, done, walk, trace, verdict, answer}
use Rattle.mrd_stream.specs.Places.{Located, located, places, nth, place}

-- the place l where it is record n's, else what was found before
abbrev pub kept_by : Located → ℕ → Answer Located → Answer Located
kept_by l n before = pick (eqb l.number n) (answered l) before

-- the place of record n in what is left of a trace, where `before` was found so far
abbrev pub seek : ℕ → Answer Located → Trace → Answer Located
seek n before (message c k m r) = seek n (kept_by (located c k m) n before) r
seek n before (done v) = unless_refused v before

-- at a message, its place is kept where it is record n's
pub seek-next : (n : ℕ) (before : Answer Located) (c : Cursor) (k : Kind) (m : List ℕ) {l : Located} → l ≡ located c k m → (r : Trace) →
    seek n before (message c k m r) ≡ seek n (kept_by l n before) r
seek-next n before c k m e r = ap (λ (l : Located). seek n (kept_by l n before) r) (sym e)

-- the messages of a trace are numbered from i on
abbrev pub Numbered : ℕ → Trace → Type 0
Numbered i (message c k m r) = (c.number ≡ i) × Numbered (suc i) r
Numbered i (done v) = Unit {0}

-- past its number, a record is not found again
seek-past : (n i : ℕ) (before : Answer Located) (r : Trace) → Numbered i r → n < i → seek n before r ≡ unless_refused (verdict r) before
seek-past n i before (done v) u h = refl
seek-past n i before (message c k m r) u h =
    rw (ne_eqb c.number n (λ e. omega (arith, u.0))) (seek-past n (suc i) before r u.1 (omega arith))

-- the record that is d after the next one
seek-ahead : (d i : ℕ) (r : Trace) → Numbered i r → seek (i + d) (number 16) r ≡ unless_refused (verdict r) (nth (places r) d)
seek-ahead d i (done v) u = refl
seek-ahead zero i (message c k m r) u =
    let here : c.number ≡ i + 0 = omega (arith, u.0) in
    rw (eq-eqb c.number (i + 0) here) (seek-past (i + 0) (suc i) (answered (located c k m)) r u.1 (omega arith))
seek-ahead (suc d) i (message c k m r) u =
    let next : i + suc d ≡ suc i + d = omega arith in
    rw (ne_eqb c.number (i + suc d) (λ e. omega (arith, u.0))) (ap (λ (n : ℕ). seek n (number 16) r) next ∙ seek-ahead d (suc i) r u.1)

-- the messages that a walk meets are numbered from its cursor's number on
pub walk-numbered : (rules : Rules) (t : List ℕ) (k : ℕ) (c : Cursor) → Numbered c.number (walk rules t k c)
unfolding walk
walk-numbered rules [] k c = tt
walk-numbered rules (b ∷ t) (suc k) c = walk-numbered rules t k c
walk-numbered rules (b ∷ t) zero c = judged (λ k z. walk-numbered rules t (pred z) (after c k z)) (judge rules c (b ∷ t)) refl
  where
    judged : ((k : Kind) (z : ℕ) → Numbered (c.number + 1) (walk rules t (pred z) (after c k z))) → (j : Judged) → judge rules c (b ∷ t) ≡ j →
        Numbered c.number (walk rules (b ∷ t) 0 c)
    judged ih (faulty f) e = rw (e, walk) tt
    judged ih (whole k z) e =
        rw (e, walk) (refl, subst (λ (n : ℕ). Numbered n (walk rules t (pred z) (after c k z))) (add-one c.number) (ih k z))

-- seeking record n from the beginning finds its place
pub seek-place : (rules : Rules) (s : List ℕ) (n : ℕ) → seek n (number 16) (trace rules s) ≡ place rules s n
unfolding place answer trace
seek-place rules s n =
    let same : 0 + n ≡ n = omega arith in
    rw same at (seek-ahead n 0 (walk rules s 0 beginning) (walk-numbered rules s 0 beginning))
