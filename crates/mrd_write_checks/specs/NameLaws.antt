-- A given name: what its checks say, and that its fixed part, where the zeros begin after it, passes with it.
-- Assumes nothing.
use Rattle.std.specs.Prelude.{ℕ, zero, suc, ◌+◌, ◌-◌, ◌≤◌, ◌<◌, ◌≡◌, refl, Bool, true, false, List, [], ◌∷◌, ◌++◌, eqb, ltb, length, replicate}
use Rattle.std.proofs.Common.{zero-add, add-zero, suc-add, not-suc-le-zero, le_of_suc-le-suc, arith, sym, ap, ◌∙◌, lt-ltb, le-ltb, ltb-false}
use Rattle.std.proofs.lemmas.Bool.{lt-leb}
use Rattle.mrd_bytes.specs.Bytes.{index_of, index_after}
use Rattle.mrd_logic.specs.Answer.{answered, number}
use Rattle.mrd_logic.specs.Choice.{neither}
use Rattle.mrd_logic.specs.Checks.{Check, ◌when◌, first, unless}
use Rattle.mrd_logic.specs.CheckLaws.{first_next}
use Rattle.mrd_format.specs.declared.kind.Kind.TheVariants.{ConfigurationName}
use Rattle.mrd_format.specs.Segments.{name_length}
use Rattle.mrd_format.specs.Message.{limit, own_checks}
use Rattle.mrd_format.specs.OwnCheckLaws.{own-numbered}
use Rattle.mrd_write_checks.specs.declared.lengths.Lengths.{Lengths}
use Rattle.mrd_write_checks.specs.WriteChecks.{name_unfit, due_lengths, given_fixed, of_writer, given_own_checks, given_size, sized_checks}
use Rattle.mrd_write_checks.specs.Sized.{sized_answer, name_sized}

-- a name that is too long, one that holds a zero, and one that is sound
pub name-long : (name : List ℕ) → 1024 ≤ length name → name_sized name ≡ number 5
unfolding name_sized name_unfit
name-long name l = rw (lt-ltb 1023 (length name) l)

pub name-zero : (name : List ℕ) → length name < 1024 → index_of 0 name < length name → name_sized name ≡ number 5
unfolding name_sized name_unfit
name-zero name l z = let short : length name ≤ 1023 = omega arith in rw (le-ltb 1023 (length name) short, lt-ltb _ _ z)

pub name-sound : (name : List ℕ) → length name < 1024 → length name ≤ index_of 0 name → name_sized name ≡ answered 1026
unfolding name_sized name_unfit
name-sound name l z = let short : length name ≤ 1023 = omega arith in rw (le-ltb 1023 (length name) short, le-ltb _ _ z)

-- a sound name is short enough for its zero, and holds none itself
pub name_bounds : (name : List ℕ) → name_unfit name ≡ false → (length name ≤ 1023) × (length name ≤ index_of 0 name)
unfolding name_unfit
name_bounds name e =
    let tests = neither (ltb 1023 (length name)) (ltb (index_of 0 name) (length name)) e in
    (ltb-false 1023 (length name) tests.0, ltb-false (index_of 0 name) (length name) tests.1)

-- bytes without a zero, and what follows them
index-after : (a b : List ℕ) → length a ≤ index_of 0 a → index_of 0 (a ++ b) ≡ length a + index_of 0 b
unfolding index_of index_after
index-after [] b h = sym (zero-add (index_of 0 b))
index-after (x ∷ a) b h = by-test (eqb x 0) (index-after a b) h
  where
    by-test : (t : Bool) → (length a ≤ index_of 0 a → index_of 0 (a ++ b) ≡ length a + index_of 0 b) →
        suc (length a) ≤ index_after t (index_of 0 a) → index_after t (index_of 0 (a ++ b)) ≡ suc (length a) + index_of 0 b
    by-test true ih h = absurd (not-suc-le-zero h)
    by-test false ih h = let e = ih (le_of_suc-le-suc h) in rw (e, suc-add)

-- the first of some zeros
zeros_first : (n : ℕ) → 0 < n → index_of 0 (replicate n 0) ≡ 0
unfolding index_of index_after
zeros_first zero h = refl
zeros_first (suc n) h = refl

-- its zeros begin after it
pub name-ends : (h name : List ℕ) (n : Lengths) → name_unfit name ≡ false → name_length (given_fixed ConfigurationName h name n) ≡ length name
unfolding name_length given_fixed
name-ends h name n e =
    let fits = name_bounds name e in
    let some : 0 < 1024 - length name = omega arith in
    index-after name (replicate (1024 - length name) 0) fits.1 ∙ rw (zeros_first (1024 - length name) some, add-zero)

-- so its fixed part passes
pub name-passes : (h name : List ℕ) (n : Lengths) → name_unfit name ≡ false → first (own_checks ConfigurationName (given_fixed ConfigurationName h name n)) ≡ 0
unfolding own_checks
name-passes h name n e =
    let short : length name < 1024 = omega (arith, name_bounds name e) in
    rw (name-ends h name n e, lt-leb 1024 (length name) short)

-- check 9 is none of its checks
name-own : (f : List ℕ) → of_writer (own_checks ConfigurationName f) ≡ own_checks ConfigurationName f
unfolding own_checks
name-own f = refl

-- and checks 4 to 10 go by the name alone
pub sized-name : (h name : List ℕ) (n : Lengths) → sized_answer ConfigurationName h name n ≡ name_sized name
unfolding sized_answer sized_checks given_own_checks given_size due_lengths name_sized
sized-name h name n =
    ap (λ (cs : List Check). unless (first ((5 when name_unfit name) ∷ (cs ++ ((10 when ltb limit 1026) ∷ [])))) number (answered 1026))
    (name-own (given_fixed ConfigurationName h name n)) ∙
    ap (λ (f : ℕ). unless f number (answered 1026)) (by-test (name_unfit name) refl)
  where
    own : List Check
    own = own_checks ConfigurationName (given_fixed ConfigurationName h name n)

    by-test : (b : Bool) → name_unfit name ≡ b → first ((5 when b) ∷ (own ++ ((10 when ltb limit 1026) ∷ []))) ≡ first ((5 when b) ∷ [])
    by-test true e = refl
    by-test false e = first_next own _ (own-numbered ConfigurationName _) (name-passes h name n e)
