-- What stands at a place of a list; and lists found to stand at the front of others, or to be equal: exactly those that do, and those that are.
-- Assumes nothing.
use Rattle.std.specs.Prelude.{ℕ, zero, suc, ◌+◌, ◌<◌, ◌≡◌, refl, Bool, true, false, ◌&&◌, List, [], ◌∷◌, ◌++◌, map, eqb, length, get_or, take, drop}
use Rattle.std.proofs.Common.{arith, sym, ap, ◌∙◌, subst, eq-eqb, eqb-true, length-drop, drop-cons, drop-drop}
use Rattle.std.proofs.Math.Bool.{and_assoc, and-true, and-false}
use Rattle.std.proofs.lemmas.Bool.{false≢true}
use Rattle.mrd_logic.specs.Choice.{both}
use Rattle.mrd_logic.specs.Every.{Every}
use Rattle.mrd_logic.specs.Lists.{Nth, begins, equal}

-- what holds of each element holds of the one at a place; a list of images has the image there
pub every_nth : {A : Type 0} (P : A → Type 0) (xs : List A) (n : ℕ) (x : A) → Every P xs → Nth xs n x → P x
every_nth P [] n x e h = absurd h
every_nth P (y ∷ xs) zero x e h = subst P h e.0
every_nth P (y ∷ xs) (suc n) x e h = every_nth P xs n x e.1 h

pub nth-map : {A B : Type 0} (f : A → B) (xs : List A) (n : ℕ) (x : A) → Nth xs n x → Nth (map f xs) n (f x)
nth-map f [] n x h = h
nth-map f (y ∷ xs) zero x h = ap f h
nth-map f (y ∷ xs) (suc n) x h = nth-map f xs n x h

begins-append : (a b t : List ℕ) → begins (a ++ b) t ≡ (begins a t && begins b (drop (length a) t))
begins-append [] b t = refl
begins-append (x ∷ a) b [] = refl
begins-append (x ∷ a) b (y ∷ t) = rw (begins-append a b t) (sym (and_assoc (eqb y x) (begins a t) (begins b (drop (length a) t))))

-- a, then b, from `at` on, where b starts at `next`
pub begins-next : (f a b : List ℕ) (at next : ℕ) → next ≡ at + length a →
    begins (a ++ b) (drop at f) ≡ (begins a (drop at f) && begins b (drop next f))
begins-next f a b at next e = begins-append a b (drop at f) ∙ rw (drop-drop (length a) at f, e)

pub equal-append : (t a b : List ℕ) → equal t (a ++ b) ≡ (begins a t && equal (drop (length a) t) b)
equal-append t [] b = refl
equal-append [] (x ∷ a) b = refl
equal-append (y ∷ t) (x ∷ a) b = rw (equal-append t a b) (sym (and_assoc (eqb y x) (begins a t) (equal (drop (length a) t) b)))

-- a list too short for m does not begin with it
begins_short : (m t : List ℕ) → length t < length m → begins m t ≡ false
begins_short [] t h = absurd (omega arith)
begins_short (x ∷ m) [] h = refl
begins_short (x ∷ m) (y ∷ t) h = rw (begins_short m t (omega arith)) (and-false (eqb y x))

-- a list as long as m that begins with it is m
equal-long : (t m : List ℕ) → length t ≡ length m → equal t m ≡ begins m t
equal-long [] [] h = refl
equal-long [] (x ∷ m) h = absurd (omega arith)
equal-long (y ∷ t) [] h = absurd (omega arith)
equal-long (y ∷ t) (x ∷ m) h = ap (λ (b : Bool). eqb y x && b) (equal-long t m (omega arith))

equal-other : (t m : List ℕ) → (length t ≡ length m → ⊥) → equal t m ≡ false
equal-other [] [] h = absurd (h refl)
equal-other [] (x ∷ m) h = refl
equal-other (y ∷ t) [] h = refl
equal-other (y ∷ t) (x ∷ m) h = rw (equal-other t m (λ e. h (ap suc e))) (and-false (eqb y x))

-- what lies in f from `at` on is too short for m, has another length, or has m's length
module _ (f m : List ℕ) (at : ℕ) (some : 0 < length m) where
  pub rest-short : length f < at + length m → begins m (drop at f) ≡ false
  rest-short h = begins_short m (drop at f) (simp length-drop (omega arith))

  pub rest-other : (length f ≡ at + length m → ⊥) → equal (drop at f) m ≡ false
  rest-other h = equal-other (drop at f) m (λ e. h (omega (arith, e, length-drop at f)))

  pub rest-long : length f ≡ at + length m → equal (drop at f) m ≡ begins m (drop at f)
  rest-long h = equal-long (drop at f) m (simp length-drop (omega arith))

-- one place of a list
pub place-tested : (a : List ℕ) (n v : ℕ) → n < length a → begins (v ∷ []) (drop n a) ≡ eqb (get_or a n 0) v
place-tested a n v h = ap (begins (v ∷ [])) (drop-cons a n 0 h) ∙ and-true (eqb (get_or a n 0) v)

-- equal lists, and no others, are found equal
pub equal_refl : (m : List ℕ) → equal m m ≡ true
equal_refl [] = refl
equal_refl (x ∷ m) = rw (eq-eqb x x refl) (equal_refl m)

pub equal-same : (t m : List ℕ) → equal t m ≡ true → t ≡ m
equal-same [] [] e = refl
equal-same [] (x ∷ m) e = absurd (false≢true e)
equal-same (y ∷ t) [] e = absurd (false≢true e)
equal-same (y ∷ t) (x ∷ m) e =
    let h = both (eqb y x) (equal t m) e in
    let head : y ≡ x = eqb-true y x h.0 in
    let tail : t ≡ m = equal-same t m h.1 in
    cc

-- a list begins with m exactly when its first elements, as many as m has, are m
pub begins-take : (m t : List ℕ) → begins m t ≡ true → take (length m) t ≡ m
begins-take [] t e = refl
begins-take (x ∷ m) [] e = absurd (false≢true e)
begins-take (x ∷ m) (y ∷ t) e =
    let h = both (eqb y x) (begins m t) e in
    let head : y ≡ x = eqb-true y x h.0 in
    let tail : take (length m) t ≡ m = begins-take m t h.1 in
    cc

pub take_begins : (m t : List ℕ) → take (length m) t ≡ m → begins m t ≡ true
take_begins [] t e = refl
take_begins (x ∷ m) [] e = let z : ◌≡◌ {A = ℕ} 0 1 = cc in absurd (omega arith)
take_begins (x ∷ m) (y ∷ t) e =
    let head : y ≡ x = cc in
    let tail : take (length m) t ≡ m = cc in
    rw (eq-eqb y x head) (take_begins m t tail)
