-- An answer is of one case only; what is answered is not the stream's refusal.
-- Assumes nothing.
use Rattle.std.specs.Prelude.{ℕ, ◌≡◌}
use Rattle.std.proofs.Common.{arith, sym}
use Rattle.mrd_logic.specs.Answer.{Verdict, accepted, refused, Answer, answered, stream, number, unless_refused}

pub answered-not-number : {A : Type 0} {x : A} {n : ℕ} → answered x ≡ number n → ⊥
answered-not-number e = let z : ◌≡◌ {A = ℕ} 0 1 = cc in omega arith

pub answered-not-stream : {A : Type 0} {x : A} {f r b : ℕ} → answered x ≡ stream f r b → ⊥
answered-not-stream e = let z : ◌≡◌ {A = ℕ} 0 1 = cc in omega arith

pub stream-not-number : {A : Type 0} {f r b n : ℕ} → ◌≡◌ {A = Answer A} (stream f r b) (number n) → ⊥
stream-not-number e = let z : ◌≡◌ {A = ℕ} 0 1 = cc in omega arith

pub answered-accepted : {A : Type 0} (v : Verdict) (a : Answer A) {x : A} → unless_refused v a ≡ answered x → a ≡ answered x
answered-accepted (accepted n) a e = e
answered-accepted (refused f r b) a e = absurd (answered-not-stream (sym e))
