-- Things whose places adjoin hold each byte from the first to the last exactly once, and none past the last.
-- Assumes nothing.
use Rattle.std.specs.Prelude.{ℕ, zero, suc, ◌+◌, ◌-◌, ◌≤◌, ◌<◌, ◌≡◌, refl, Bool, true, false, List, [], ◌∷◌, map, leb, ltb, take, drop}
use Rattle.std.proofs.Common.{arith, sym, ap, ◌∙◌, le-leb, lt-ltb, le-ltb, leb-true, ltb-true, ltb-false}
use Rattle.mrd_logic.specs.Answer.{answered, number}
use Rattle.mrd_logic.specs.AnswerLaws.{answered-not-number}
use Rattle.mrd_logic.specs.Choice.{pick, both}
use Rattle.mrd_logic.specs.Joined.{joined}
use Rattle.mrd_logic.specs.Lists.{Nth}
use Rattle.mrd_format.specs.Parts.{Extent, bytes_at}
use Rattle.mrd_format.proofs.HeaderLaws.{take_next}
use Rattle.mrd_format.specs.Adjoining.{Adjoins}
use Rattle.mrd_format.specs.Holding.{holds, holding, OnlyIn, Once, Found}

-- a place that holds a byte
pub held : (e : Extent) (i : ℕ) → holds e i ≡ true → (e.offset ≤ i) × (i < e.offset + e.size)
held e i h =
    let tests = both (leb e.offset i) (ltb i (e.offset + e.size)) h in
    (leb-true e.offset i tests.0, ltb-true i (e.offset + e.size) tests.1)

pub holds_true : (e : Extent) (i : ℕ) → e.offset ≤ i → i < e.offset + e.size → holds e i ≡ true
holds_true e i low high = rw (le-leb e.offset i low, lt-ltb i (e.offset + e.size) high)

-- and one that ends before it
pub holds-past : (e : Extent) (i : ℕ) → e.offset + e.size ≤ i → holds e i ≡ false
holds-past e i past =
    let low : e.offset ≤ i = omega arith in
    rw (le-leb e.offset i low, le-ltb i (e.offset + e.size) past)

-- what adjoins from a to b goes forward
adjoins_end : (a b : ℕ) (es : List Extent) → Adjoins a b es → a ≤ b
adjoins_end a b [] p = omega (arith, p)
adjoins_end a b (e ∷ es) p = omega (arith, adjoins_end (a + e.size) b es p.1)

module _ {A : Type 0} (f : A → Extent) where
  -- the first of some things holds the byte, or ends before it
  pub holding-here : (x : A) (xs : List A) (i : ℕ) → (f x).offset ≤ i → i < (f x).offset + (f x).size → holding f (x ∷ xs) i ≡ answered x
  holding-here x xs i low high = rw (holds_true (f x) i low high)

  pub holding-later : (x : A) (xs : List A) (i : ℕ) → (f x).offset + (f x).size ≤ i → holding f (x ∷ xs) i ≡ holding f xs i
  holding-later x xs i past = rw (holds-past (f x) i past)

  -- things that adjoin from a on lie there
  adjoins-from : (xs : List A) (a b n : ℕ) {x : A} → Adjoins a b (map f xs) → Nth xs n x → a ≤ (f x).offset
  adjoins-from [] a b n p h = absurd h
  adjoins-from (y ∷ xs) a b zero p h = rw (← h) (omega (arith, p.0))
  adjoins-from (y ∷ xs) a b (suc n) p h = omega (arith, adjoins-from xs (a + (f y).size) b n p.1 h)

  -- and end by b
  pub adjoins-to : (xs : List A) (a b n : ℕ) (x : A) → Adjoins a b (map f xs) → Nth xs n x → (f x).offset + (f x).size ≤ b
  adjoins-to [] a b n x p h = absurd h
  adjoins-to (y ∷ xs) a b zero x p h = rw (← h) (omega (arith, p.0, adjoins_end (a + (f y).size) b (map f xs) p.1))
  adjoins-to (y ∷ xs) a b (suc n) x p h = adjoins-to xs (a + (f y).size) b n x p.1 h

  -- a thing that holds the byte before the others, and others of which one alone holds it
  only-first : (x : A) (xs : List A) (a b i m : ℕ) (y : A) → Adjoins a b (map f xs) → i < a → Nth (x ∷ xs) m y → holds (f y) i ≡ true → m ≡ 0
  only-first x xs a b i zero y p low h e = refl
  only-first x xs a b i (suc m) y p low h e = absurd (omega (arith, adjoins-from xs a b m p h, held (f y) i e))

  only-later : (x : A) (xs : List A) (i n : ℕ) {z : A} → (f x).offset + (f x).size ≤ i → OnlyIn f xs i n z → (m : ℕ) (y : A) → Nth (x ∷ xs) m y →
      holds (f y) i ≡ true → m ≡ suc n
  only-later x xs i n past o zero y h e = absurd (omega (arith, held (f x) i (rw h e), past))
  only-later x xs i n past o (suc m) y h e = ap suc (o.only m y h e)

  pub held-once : (xs : List A) (a b i : ℕ) → Adjoins a b (map f xs) → a ≤ i → i < b → Once f xs i
  held-once [] a b i p low high = absurd (omega (arith, p))
  held-once (x ∷ xs) a b i p low high = by-test (λ past. held-once xs (a + (f x).size) b i p.1 past high) (ltb i (a + (f x).size)) refl
    where
      by-test : (a + (f x).size ≤ i → Once f xs i) → (t : Bool) → ltb i (a + (f x).size) ≡ t → Once f (x ∷ xs) i
      by-test later true e =
          let from : (f x).offset ≤ i = omega (arith, p.0) in
          let to : i < (f x).offset + (f x).size = omega (arith, p.0, ltb-true i (a + (f x).size) e) in
          let first = only-first x xs (a + (f x).size) b i in (
            0,
            (
              x,
              (
                holding-here x xs i from to,
                record {
                  there = refl;
                  inside = holds_true (f x) i from to;
                  only = λ m y. first m y p.1 (ltb-true i (a + (f x).size) e);
                },
              ),
            ),
          )
      by-test later false e =
          let past : a + (f x).size ≤ i = ltb-false i (a + (f x).size) e in
          let ends : (f x).offset + (f x).size ≤ i = omega (arith, p.0) in
          let r = later past in (
            suc r.0,
            (
              r.1.0,
              (
                holding-later x xs i ends ∙ r.1.1.0,
                record {
                  there = r.1.1.1.there;
                  inside = r.1.1.1.inside;
                  only = only-later x xs i r.0 ends r.1.1.1;
                },
              ),
            ),
          )

  -- past the last of them no byte is found
  pub held_none : (xs : List A) (a b i : ℕ) → Adjoins a b (map f xs) → b ≤ i → holding f xs i ≡ number 16
  held_none [] a b i p past = refl
  held_none (x ∷ xs) a b i p past =
      holding-later x xs i (omega (arith, p.0, adjoins_end (a + (f x).size) b (map f xs) p.1)) ∙ held_none xs (a + (f x).size) b i p.1 past

  -- so whichever holds a byte is the one found
  pub found-held : (xs : List A) (a b i n : ℕ) (x : A) → Adjoins a b (map f xs) → Nth xs n x → holds (f x) i ≡ true → holding f xs i ≡ answered x
  found-held [] a b i n x p h e = absurd h
  found-held (y ∷ xs) a b i zero x p h e = rw (h, e)
  found-held (y ∷ xs) a b i (suc n) x p h e =
      let past : (f y).offset + (f y).size ≤ i = omega (arith, p.0, adjoins-from xs (a + (f y).size) b n p.1 h, held (f x) i e) in
      holding-later y xs i past ∙ found-held xs (a + (f y).size) b i n x p.1 h e

  pub found-there : (xs : List A) (i : ℕ) {x : A} → holding f xs i ≡ answered x → Found f xs i x
  found-there [] i e = absurd (answered-not-number (sym e))
  found-there (y ∷ xs) i {x} e = by-test (found-there xs i) (holds (f y) i) refl e
    where
      by-test : (holding f xs i ≡ answered x → Found f xs i x) → (t : Bool) → holds (f y) i ≡ t → pick t (answered y) (holding f xs i) ≡ answered x → Found f (y ∷ xs) i x
      by-test later true h e = let same : y ≡ x = cc in (0, (same, rw (← same) h))
      by-test later false h e = let r = later e in (suc r.0, (r.1.0, r.1.1))

-- the bytes of a list at places that adjoin, joined, are its bytes from the first to the last
pub adjoining-bytes : (m : List ℕ) (a b : ℕ) (es : List Extent) → Adjoins a b es → joined (map (bytes_at m) es) ≡ take (b - a) (drop a m)
adjoining-bytes m a b [] p =
    let none : b - a ≡ 0 = omega (arith, p) in
    rw none
adjoining-bytes m a b (e ∷ es) p =
    let all : b - a ≡ e.size + (b - (a + e.size)) = omega (arith, adjoins_end (a + e.size) b es p.1) in
    rw (p.0, all, adjoining-bytes m (a + e.size) b es p.1) (sym (take_next e.size (b - (a + e.size)) a m))
