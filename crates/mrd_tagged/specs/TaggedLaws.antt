-- Numbers compared as their bytes; and a tag and its length, put and compared.
-- Assumes nothing.
use Rattle.std.specs.Prelude.{ℕ, zero, suc, ◌+◌, ◌*◌, ◌/◌, ◌%◌, ◌^◌, ◌≤◌, ◌<◌, ◌≡◌, refl, Bool, true, false, ◌&&◌, List, [], ◌∷◌, ◌++◌, eqb, length, get_or, take, drop, set}
use Rattle.std.proofs.Math.Nat.{pow-succ'}
use Rattle.std.proofs.Common.{add-one, arith, sym, ap, ◌∙◌, eq-eqb, ne_eqb, eqb-true, length-append, length-drop, Fits}
use Rattle.std.proofs.lemmas.Bool.{eqb-false}
use Rattle.std.proofs.lemmas.List.{set_split}
use Rattle.std.specs.Int.{w8}
use Rattle.mrd_logic.specs.Lists.{begins}
use Rattle.mrd_logic.specs.ListLaws.{begins-next, place-tested}
use Rattle.mrd_numbers.specs.Little.{from_bytes, to_bytes, num, Bytes}
use Rattle.mrd_numbers.specs.ByteLaws.{all-bytes, bytes_drop}
use Rattle.mrd_numbers.specs.Stored.{stored, stored_next}
use Rattle.mrd_tagged.specs.Tagged.{heading}

-- a byte and what is above it
digit : (x y v : ℕ) → x < 256 → (eqb x (v % 256) && eqb y (v / 256)) ≡ eqb (x + 256 * y) v
digit x y v h = low (eqb x (v % 256)) refl
  where
    high : (b : Bool) → x ≡ v % 256 → eqb y (v / 256) ≡ b → b ≡ eqb (x + 256 * y) v
    high true e q = sym (eq-eqb (x + 256 * y) v (omega (arith, eqb-true y (v / 256) q)))
    high false e q = sym (ne_eqb (x + 256 * y) v (λ z. eqb-false y (v / 256) q (omega arith)))

    low : (b : Bool) → eqb x (v % 256) ≡ b → (b && eqb y (v / 256)) ≡ eqb (x + 256 * y) v
    low true q = high (eqb y (v / 256)) (eqb-true x (v % 256) q) refl
    low false q = sym (ne_eqb (x + 256 * y) v (λ z. eqb-false x (v % 256) q (omega arith)))

-- bytes begin with those of a number where they make that number
number-begins : (w v : ℕ) (t : List ℕ) → Bytes t → w ≤ length t → v < 256 ^ w → begins (to_bytes w v) t ≡ eqb (from_bytes (take w t)) v
number-begins zero v t b h l = sym (eq-eqb 0 v (omega arith))
number-begins (suc w) v [] b h l = absurd (omega arith)
number-begins (suc w) v (x ∷ t) b h l =
    let less : v < 256 * 256 ^ w = rw pow-succ' at l in
    rw (number-begins w (v / 256) t b.1 (omega arith) (omega arith)) (digit x (from_bytes (take w t)) v b.0)

-- the same at a place of a slice of bytes
pub number_same : (w v : ℕ) (f : List ℕ) (at : ℕ) → ((i : ℕ) → Fits w8 (get_or f i 0)) → at + w ≤ length f → v < 256 ^ w →
    begins (to_bytes w v) (drop at f) ≡ eqb (num w f at) v
unfolding num
number_same w v f at b h l = number-begins w v (drop at f) (bytes_drop at f (all-bytes f b)) (simp length-drop (omega arith)) l

-- a number written to its place
pub set-stored : (o : List ℕ) (at v : ℕ) → at < length o → set o at v ≡ stored at (v ∷ []) o
unfolding stored
set-stored o at v h = rw (add-one at) (set_split o at v h)

-- a field's tag, and the length of its body right after it: put, and compared
module _ (f : List ℕ) (at tag size : ℕ) (h : at + 3 ≤ length f) where
  pub heading-stored : stored (at + 1) (to_bytes 2 size) (set f at tag) ≡ stored at (heading tag size) f
  heading-stored = rw (set-stored f at tag (omega arith)) (stored_next at (tag ∷ []) (to_bytes 2 size) f (omega arith))

  pub heading-same : (eqb (get_or f at 0) tag && begins (to_bytes 2 size) (drop (at + 1) f)) ≡ begins (heading tag size) (drop at f)
  heading-same = sym (begins-next f (tag ∷ []) (to_bytes 2 size) at (at + 1) refl ∙
      ap (λ (b : Bool). b && begins (to_bytes 2 size) (drop (at + 1) f)) (place-tested f at tag (omega arith)))

-- bytes put one after the other, from `at` on: two, and four
pub two-stored : (o a b : List ℕ) (at i : ℕ) {x y : List ℕ} → x ≡ stored at a o → y ≡ stored i b x → i ≡ at + length a → i ≤ length o →
    y ≡ stored at (a ++ b) o
two-stored o a b at i e f p h = f ∙ ap (stored i b) e ∙ rw p (stored_next at a b o (omega arith))

module _ (o a b c d : List ℕ) (at i j k : ℕ) (p : i ≡ at + length a) (q : j ≡ i + length b) (r : k ≡ j + length c) where
  pub four-stored : {x y z w : List ℕ} → k ≤ length o → x ≡ stored at a o → y ≡ stored i b x → z ≡ stored j c y → w ≡ stored k d z →
      w ≡ stored at (((a ++ b) ++ c) ++ d) o
  four-stored h e f g l =
      let two = two-stored o a b at i e f p (omega arith) in
      let three = two-stored o (a ++ b) c at j two g (omega (arith, length-append a b)) (omega arith) in
      two-stored o ((a ++ b) ++ c) d at k three l (omega (arith, length-append a b, length-append (a ++ b) c)) h

  -- and compared
  pub four_same : (begins a (drop at o) && (begins b (drop i o) && (begins c (drop j o) && begins d (drop k o)))) ≡
      begins (a ++ (b ++ (c ++ d))) (drop at o)
  four_same = sym (begins-next o a (b ++ (c ++ d)) at i p ∙ ap (λ (x : Bool). begins a (drop at o) && x)
      (begins-next o b (c ++ d) i j q ∙ ap (λ (x : Bool). begins b (drop i o) && x) (begins-next o c d j k r)))
