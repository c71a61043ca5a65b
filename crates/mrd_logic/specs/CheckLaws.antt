-- 'Order of checks': which check of a list decides. No refusal means that every check passed, a refusal that the first that refuses decides.
-- Assumes nothing.
use Rattle.std.specs.Prelude.{ℕ, zero, suc, ◌≡◌, refl, Bool, true, false, not, ◌&&◌, List, [], ◌∷◌, ◌++◌, eqb}
use Rattle.std.proofs.Common.{suc-ne-zero, sym, ap, ◌∙◌, true≢false, append-nil, eq-eqb}
use Rattle.std.proofs.lemmas.Bool.{false≢true}
use Rattle.mrd_logic.specs.Every.{Every, every_split}
use Rattle.mrd_logic.specs.Choice.{pick, both}
use Rattle.mrd_logic.specs.Checks.{Check, ◌when◌, first, unless, without, Passed, FirstFault}

-- whether no check has the number 0, which stands for 'no refusal'
abbrev pub numbered : List Check → Bool
numbered [] = true
numbered ((zero when b) ∷ cs) = false
numbered ((suc n when b) ∷ cs) = numbered cs

-- no refusal: every check passed
pub first-passed : (cs : List Check) → numbered cs ≡ true → first cs ≡ 0 → Every Passed cs
first-passed [] n e = tt
first-passed ((zero when b) ∷ cs) n e = absurd (false≢true n)
first-passed ((suc f when true) ∷ cs) n e = absurd (suc-ne-zero f e)
first-passed ((suc f when false) ∷ cs) n e = (refl, first-passed cs n e)

-- checks that pass decide nothing
pub first_skip : (cs ds : List Check) → Every Passed cs → first (cs ++ ds) ≡ first ds
first_skip [] ds p = refl
first_skip ((f when true) ∷ cs) ds p = absurd (true≢false p.0)
first_skip ((f when false) ∷ cs) ds p = first_skip cs ds p.1

pub passed_first : (cs : List Check) → Every Passed cs → first cs ≡ 0
passed_first cs p = rw append-nil at (first_skip cs [] p)

-- a refusal: the first check that refuses
pub first-fault : (cs : List Check) (f : ℕ) → first cs ≡ f → (f ≡ 0 → ⊥) → FirstFault f cs
first-fault [] f e n = absurd (n (sym e))
first-fault ((g when true) ∷ cs) f e n = record { earlier = []; later = cs; all = rw e; passed = tt }
first-fault ((g when false) ∷ cs) f e n =
    let r : FirstFault f cs = first-fault cs f e n in
    record {
      earlier = (g when false) ∷ r.earlier;
      later = r.later;
      all = ap (λ (l : List Check). (g when false) ∷ l) r.all;
      passed = (refl, r.passed);
    }

pub fault-first : (cs : List Check) {f : ℕ} → FirstFault f cs → first cs ≡ f
fault-first cs {f} r = rw r.all (first_skip r.earlier ((f when true) ∷ r.later) r.passed)

pub numbered-append : (cs ds : List Check) → numbered cs ≡ true → numbered ds ≡ true → numbered (cs ++ ds) ≡ true
numbered-append [] ds n o = o
numbered-append ((zero when b) ∷ cs) ds n o = n
numbered-append ((suc f when b) ∷ cs) ds n o = numbered-append cs ds n o

pub numbered-without : (n : ℕ) (cs : List Check) → numbered cs ≡ true → numbered (without n cs) ≡ true
numbered-without n [] e = refl
numbered-without n ((zero when b) ∷ cs) e = absurd (false≢true e)
numbered-without n ((suc f when b) ∷ cs) e = by-test (eqb (suc f) n) (numbered-without n cs e)
  where
    by-test : (t : Bool) → numbered (without n cs) ≡ true → numbered (pick t (without n cs) ((suc f when b) ∷ without n cs)) ≡ true
    by-test true later = later
    by-test false later = later

-- whether no check has the number n
abbrev pub lacking : ℕ → List Check → Bool
lacking n [] = true
lacking n ((f when b) ∷ cs) = not (eqb f n) && lacking n cs

pub lacking-without : (n : ℕ) (cs : List Check) → lacking n (without n cs) ≡ true
lacking-without n [] = refl
lacking-without n ((f when b) ∷ cs) = by-test (eqb f n) refl (lacking-without n cs)
  where
    by-test : (t : Bool) → eqb f n ≡ t → lacking n (without n cs) ≡ true → lacking n (pick t (without n cs) ((f when b) ∷ without n cs)) ≡ true
    by-test true e later = later
    by-test false e later = rw e later

pub lacking-append : (n : ℕ) (cs ds : List Check) → lacking n cs ≡ true → lacking n ds ≡ true → lacking n (cs ++ ds) ≡ true
lacking-append n [] ds a b = b
lacking-append n ((f when t) ∷ cs) ds a b =
    let tests = both (not (eqb f n)) (lacking n cs) a in
    rw tests.0 (lacking-append n cs ds tests.1 b)

-- a check that does not refuse with n
abbrev pub Never : ℕ → Check → Type 0
Never n (f when b) = f ≡ n → b ≡ false

pub lacking-each : (n : ℕ) (cs : List Check) → lacking n cs ≡ true → Every (Never n) cs
lacking-each n [] a = tt
lacking-each n ((f when b) ∷ cs) a =
    let tests = both (not (eqb f n)) (lacking n cs) a in
    (λ e. absurd (true≢false (sym tests.0 ∙ ap not (eq-eqb f n e))), lacking-each n cs tests.1)

-- so n is not the first refusal of such
pub never_first : (n : ℕ) (cs : List Check) → Every (Never n) cs → first cs ≡ n → n ≡ 0
never_first n [] p e = sym e
never_first n ((f when true) ∷ cs) p e = absurd (true≢false (p.0 e))
never_first n ((f when false) ∷ cs) p e = never_first n cs p.1 e

pub lacking-never : (n : ℕ) (cs : List Check) → lacking n cs ≡ true → first cs ≡ n → n ≡ 0
lacking-never n cs a = never_first n cs (lacking-each n cs a)

-- a fault's number is not 0
pub fault-not-zero : (cs : List Check) {f : ℕ} → numbered cs ≡ true → FirstFault f cs → f ≡ 0 → ⊥
fault-not-zero cs {f} n r z =
    let p : Every Passed cs = first-passed cs n (fault-first cs r ∙ z) in
    true≢false (every_split Passed r.earlier ((f when true) ∷ r.later) (rw r.all at p)).1.0

-- where one of the first checks refuses, it decides
pub first_stops : (cs ds : List Check) {f : ℕ} → first cs ≡ suc f → first (cs ++ ds) ≡ suc f
first_stops [] ds {f} e = absurd (suc-ne-zero f (sym e))
first_stops ((g when true) ∷ cs) ds e = e
first_stops ((g when false) ∷ cs) ds e = first_stops cs ds e

pub first_decides : (cs ds : List Check) {f : ℕ} → first cs ≡ f → (f ≡ 0 → ⊥) → first (cs ++ ds) ≡ f
first_decides cs ds {f = zero} e n = absurd (n refl)
first_decides cs ds {f = suc f} e n = first_stops cs ds e

-- and where all of them pass, the next do
pub first_next : (cs ds : List Check) → numbered cs ≡ true → first cs ≡ 0 → first (cs ++ ds) ≡ first ds
first_next cs ds n e = first_skip cs ds (first-passed cs n e)

-- checks that pass decide nothing after others
pub first_pads : (cs ds : List Check) → first ds ≡ 0 → first (cs ++ ds) ≡ first cs
first_pads [] ds e = e
first_pads ((f when true) ∷ cs) ds e = refl
first_pads ((f when false) ∷ cs) ds e = first_pads cs ds e

-- checks with the same first number decide alike among more
pub first-same : (cs ds es : List Check) → numbered cs ≡ true → numbered ds ≡ true → first cs ≡ first ds → first (cs ++ es) ≡ first (ds ++ es)
first-same cs ds es n m e = by (first cs) refl
  where
    by : (f : ℕ) → first cs ≡ f → first (cs ++ es) ≡ first (ds ++ es)
    by zero q = first_next cs es n q ∙ sym (first_next ds es m (sym e ∙ q))
    by (suc f) q = first_stops cs es q ∙ sym (first_stops ds es (sym e ∙ q))

-- a number that is not 0 is refused with
pub unless-refused : {A : Type 0} (f : ℕ) (refusal : ℕ → A) (a : A) → (f ≡ 0 → ⊥) → unless f refusal a ≡ refusal f
unless-refused zero refusal a n = absurd (n refl)
unless-refused (suc f) refusal a n = refl

pub unless-stops : {A : Type 0} (cs ds : List Check) (refusal : ℕ → A) (a : A) {f : ℕ} → first cs ≡ f → (f ≡ 0 → ⊥) →
    unless (first (cs ++ ds)) refusal a ≡ refusal f
unless-stops cs ds refusal a {f = zero} e n = absurd (n refl)
unless-stops cs ds refusal a {f = suc f} e n = rw (first_stops cs ds e)

-- what is no refusal was answered, and what is not answered is the refusal
pub unless-passed : {A : Type 0} (f : ℕ) (refusal : ℕ → A) (a : A) {b : A} → ((n : ℕ) → refusal n ≡ b → ⊥) → unless f refusal a ≡ b →
    (f ≡ 0) × (a ≡ b)
unless-passed zero refusal a never e = (refl, e)
unless-passed (suc f) refusal a never e = absurd (never (suc f) e)

pub unless-fault : {A : Type 0} (f : ℕ) (refusal : ℕ → A) (a : A) {b : A} → (a ≡ b → ⊥) → unless f refusal a ≡ b →
    (refusal f ≡ b) × (f ≡ 0 → ⊥)
unless-fault zero refusal a never e = absurd (never e)
unless-fault (suc f) refusal a never e = (e, suc-ne-zero f)
