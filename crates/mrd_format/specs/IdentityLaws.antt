-- The counters of an acquisition's header: how many there are, and where each stands.
-- Assumes nothing.
use Rattle.std.specs.Prelude.{ℕ, zero, suc, ◌+◌, ◌*◌, ◌<◌, ◌≡◌, refl, List, length, get_or}
use Rattle.std.proofs.Common.{not-suc-le-zero, le_of_suc-le-suc, add_assoc, add_comm, suc-mul, arith, sym, ap, ◌∙◌}
use Rattle.mrd_numbers.specs.Little.{num}
use Rattle.mrd_format.specs.Elements.{elements_from}
use Rattle.mrd_format.specs.Acquisition.{counters_of}

-- the elements of a run are as many as it says, and element i stands where it says
elements-length : (n w o : ℕ) (h : List ℕ) → length (elements_from n w o h) ≡ n
elements-length zero w o h = refl
elements-length (suc n) w o h = ap suc (elements-length n w (o + w) h)

elements-at : (n w o : ℕ) (h : List ℕ) (i : ℕ) → i < n → get_or (elements_from n w o h) i 0 ≡ num w h (o + i * w)
elements-at zero w o h i l = absurd (not-suc-le-zero l)
elements-at (suc n) w o h zero l = let here : o ≡ o + 0 * w = omega arith in ap (num w h) here
elements-at (suc n) w o h (suc i) l =
    elements-at n w (o + w) h i (le_of_suc-le-suc l) ∙ ap (num w h)
    (add_assoc o w (i * w) ∙ ap (λ (x : ℕ). o + x) (add_comm w (i * w) ∙ sym (suc-mul i w)))

-- seventeen counters, and where each stands
module _ (h : List ℕ) where
  pub counters-length : length (counters_of h) ≡ 17
  unfolding counters_of
  counters-length = elements-length 17 2 242 h

  pub counters-at : (i : ℕ) → i < 17 → get_or (counters_of h) i 0 ≡ num 2 h (242 + i * 2)
  unfolding counters_of
  counters-at i l = elements-at 17 2 242 h i l
