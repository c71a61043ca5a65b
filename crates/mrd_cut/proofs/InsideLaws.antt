-- An answered place lies in the stream, and the bytes there are a well-formed message of the answered kind, with the answered numbers.
-- Assumes nothing.
use Rattle.std.specs.Prelude.{ℕ, zero, suc, ◌+◌, ◌≡◌, refl, List, [], ◌∷◌, ◌++◌, length}
use Rattle.std.proofs.Common.{arith, sym, append_assoc, length-append, drop_at}
use Rattle.std.proofs.Math.Seq.{take-append_seam}
use Rattle.mrd_logic.specs.Every.{Every}
use Rattle.mrd_cursor.specs.declared.cursor.Cursor.{Cursor}
use Rattle.mrd_logic.specs.Answer.{answered}
use Rattle.mrd_logic.specs.AnswerLaws.{answered-not-number, answered-accepted}
use Rattle.mrd_logic.specs.Lists.{Nth}
use Rattle.mrd_logic.specs.ListLaws.{every_nth}
use Rattle.mrd_stream.specs.Walk.{Trace, trace, answer}
use Rattle.mrd_stream.specs.Places.{Located, located, places, nth, place}
use Rattle.mrd_cut.specs.CutPlaces.{part_at}
use Rattle.mrd_cut.specs.Walked.{Walks}
use Rattle.mrd_cut.specs.Walked.{ends, faults, meets}
use Rattle.mrd_cut.proofs.WalkedLaws.{walks}
use Rattle.mrd_format.specs.declared.rules.Rules.{Rules}
use Rattle.mrd_cut.specs.Inside.{Inside}

places-inside : {rules : Rules} {c : Cursor} {s : List ℕ} {r : Trace} → Walks rules c s r → (before : List ℕ) → length before ≡ c.start →
    Every (Inside rules (before ++ s)) (places r)
places-inside {rules} ends before h = tt
places-inside {rules} (faults e) before h = tt
places-inside {rules} (meets {c} {m} {rest} {r} w a n v) before h =
    let here : part_at (before ++ (m ++ rest)) (located c w.kind m) ≡ m = rw (drop_at before (m ++ rest) c.start h, take-append_seam) in
    let far : length (before ++ m) ≡ c.start + length m = simp (length-append, h) in
    let later : Every (Inside rules (before ++ (m ++ rest))) (places r) = rw append_assoc at (places-inside v (before ++ m) far) in (
      record {
        well = rw here w;
        kind = refl;
        numbers = rw here;
        long = rw here;
        fits = simp length-append (omega (arith, h));
      },
      later,
    )

found-nth : (ls : List Located) (n : ℕ) {l : Located} → nth ls n ≡ answered l → Nth ls n l
found-nth [] n e = absurd (answered-not-number (sym e))
found-nth (k ∷ ls) zero e = cc
found-nth (k ∷ ls) (suc n) e = found-nth ls n e

-- the place that is answered for a record is the walk's of that number
pub place-nth : (rules : Rules) (s : List ℕ) (n : ℕ) {l : Located} → place rules s n ≡ answered l → Nth (places (trace rules s)) n l
unfolding place
place-nth rules s n e = found-nth (places (trace rules s)) n (answered-accepted (answer rules s) (nth (places (trace rules s)) n) e)

-- each place of a walk lies in the stream
pub nth_inside : (rules : Rules) (s : List ℕ) (n : ℕ) (l : Located) → Nth (places (trace rules s)) n l → Inside rules s l
nth_inside rules s n l h = every_nth (Inside rules s) (places (trace rules s)) n l (places-inside (walks rules s) [] refl) h

-- so does an answered one
pub place_inside : (rules : Rules) (s : List ℕ) (n : ℕ) {l : Located} → place rules s n ≡ answered l → Inside rules s l
place_inside rules s n {l} e = nth_inside rules s n l (place-nth rules s n e)
