-- A loop over octets: where it is, and what is due there.
-- Assumes nothing.
use Rattle.std.specs.Prelude.{ℕ, ◌+◌, ◌-◌, ◌≤◌, ◌<◌, ◌≡◌, refl, List, ◌∷◌, length, get_or, take, drop}
use Rattle.std.proofs.Common.{add-one, arith, sym, ap, ◌∙◌, length-drop, drop_of_length-le, drop-cons, take_all}
use Rattle.mrd_utf8.specs.Utf8.{Range}
use Rattle.mrd_utf8.specs.Fold.{next, run}

-- i octets of s are read, and reading on from here, where `due` is due, gives what reading all of s from `start` gives
pub record Reading (s : List ℕ) (start due : List Range) (i : ℕ) : Type 0 where
  pub within : i ≤ length s
  pub same : run due (drop i s) ≡ run start s

-- at the beginning
pub read_none : (s : List ℕ) (start : List Range) → Reading s start start 0
read_none s start = record { within = omega arith; same = refl }

module _ {s : List ℕ} {start due : List Range} {i : ℕ} (r : Reading s start due i) where
  -- after one octet more
  pub read_one : {then : List Range} → then ≡ next due (get_or s i 0) → i < length s → Reading s start then (i + 1)
  read_one e h =
      let here : drop i s ≡ get_or s i 0 ∷ drop (i + 1) s = rw add-one (drop-cons s i 0 h) in
      record { within = omega arith; same = ap (λ (due : List Range). run due (drop (i + 1) s)) e ∙ ap (run due) (sym here) ∙ r.same }

  -- after all that is left
  pub read-rest : {then : List Range} → then ≡ run due (take (length s - i) (drop i s)) → then ≡ run start s
  read-rest e = e ∙ ap (run due) (take_all (length s - i) (drop i s) (simp length-drop (omega arith))) ∙ r.same

  -- where nothing is left
  pub read_all : length s ≤ i → due ≡ run start s
  read_all h = ap (run due) (sym (drop_of_length-le s h)) ∙ r.same
