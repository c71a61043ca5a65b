-- The laws of 32 bits read as signed, and of the step around the wrap.
-- Assumes nothing.
use Rattle.std.specs.Prelude.{◌≡◌, ℕ, suc, ◌+◌, ◌-◌, ◌%◌, ◌^◌, ◌<◌, ◌≤◌, pos, negsuc, ◌-ℤ◌, FitsSigned}
use Rattle.std.proofs.Common.{arith, sym, ap, ◌∙◌, lt-ltb, le-ltb, to_z}
use Rattle.std.proofs.Math.Decide.{dec_lt}
use Rattle.std.proofs.Math.Facts.{to_z-neg}
use Rattle.std.specs.Int.{w32, w64}
use Rattle.std.proofs.lemmas.Int.{to_z_pos}
use Rattle.mrd_counter_step.specs.Counters.{signed, counter_step}

-- below 2 ^ 31 the number itself
pub signed_low : (d : ℕ) → d < 2 ^ 31 → signed d ≡ pos d
unfolding signed
signed_low d h = simp (lt-ltb d (2 ^ 31) h)

-- from 2 ^ 31 on, 2 ^ 32 less
pub signed_high : (d : ℕ) → 2 ^ 31 ≤ d → signed d ≡ negsuc (2 ^ 32 - 1 - d)
unfolding signed
signed_high d h = simp (le-ltb d (2 ^ 31) h)

-- the same by way of 64 bits, where it fits, as it does in 32
pub record Wide (d : ℕ) : Type 0 where
  pub same : to_z w64 d -ℤ pos 4294967296 ≡ signed d
  pub fits-wide : FitsSigned w64 (signed d)
  pub fits : FitsSigned w32 (signed d)

pub signed-wide : (d : ℕ) → 2 ^ 31 ≤ d → d < 2 ^ 32 → Wide d
signed-wide d low high =
    let rest : 4294967296 - suc d ≡ 2 ^ 32 - 1 - d = omega arith in
    record {
      same = simp (to_z_pos w64 d (omega arith), signed_high d low, lt-ltb d 4294967296 high, rest);
      fits-wide = rw (signed_high d low) (record { sfits = omega arith });
      fits = rw (signed_high d low) (record { sfits = omega arith });
    }

-- two's complement, as std casts it
pub to_z_signed : (d : ℕ) → d < 2 ^ 32 → to_z w32 d ≡ signed d
to_z_signed d fits = by-half (dec_lt d (2 ^ 31))
  where
    by-half : Dec (d < 2 ^ 31) → to_z w32 d ≡ signed d
    by-half (yes low) = to_z_pos w32 d low ∙ sym (signed_low d low)
    by-half (no not) =
        let high : 2 ^ 31 ≤ d = omega arith in
        let rest : d ≡ 2 ^ 32 - suc (2 ^ 32 - 1 - d) = omega arith in
        ap (to_z w32) rest ∙ to_z-neg w32 (2 ^ 32 - 1 - d) (omega arith) ∙ sym (signed_high d high)

-- what wraps back to the later counter is the difference around the wrap
pub step_wraps :
    (earlier later d : ℕ) → earlier < 2 ^ 32 → d < 2 ^ 32 →
    (d + earlier) % 2 ^ 32 ≡ later → signed d ≡ counter_step earlier later
unfolding counter_step
step_wraps earlier later d he hd wraps =
    let difference : d ≡ (later + (2 ^ 32 - earlier)) % 2 ^ 32 = omega arith in
    ap signed difference
