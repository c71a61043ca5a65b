-- The numbers that a record's kind carries are those of its fixed part, where it stands in the stream.
-- Assumes nothing.
use Rattle.std.specs.Prelude.{ℕ, ◌+◌, ◌≤◌, ◌≡◌, List, take, drop}
use Rattle.std.proofs.Common.{arith, ap, ◌∙◌, drop-drop}
use Rattle.mrd_numbers.specs.Laws.{part-take}
use Rattle.mrd_logic.specs.Answer.{answered}
use Rattle.mrd_format.specs.Kinds.{fixed_size}
use Rattle.mrd_format.specs.Message.{fixed_part, numbers_of}
use Rattle.mrd_format.specs.MessageLaws.{well-least}
use Rattle.mrd_stream.specs.Places.{Located, place}
use Rattle.mrd_cut.specs.CutPlaces.{part_at}
use Rattle.mrd_cut.proofs.InsideLaws.{place_inside}
use Rattle.mrd_format.specs.declared.rules.Rules.{Rules}

-- the fixed part of record i is the bytes after its id
pub fixed-there : (rules : Rules) (s : List ℕ) (i : ℕ) {l : Located} → place rules s i ≡ answered l →
    fixed_part l.kind (part_at s l) ≡ take (fixed_size l.kind) (drop (l.start + 2) s)
unfolding fixed_part
fixed-there rules s i {l} p =
    let it = place_inside rules s i p in
    let z = fixed_size l.kind in
    let within : 2 + z ≤ l.size = omega (arith, rw it.kind at (well-least (part_at s l) it.well), it.long) in
    part-take z l.size (drop l.start s) 2 within ∙ ap (take z) (drop-drop 2 l.start s)

pub numbers-told : (rules : Rules) (s : List ℕ) (i : ℕ) {l : Located} → place rules s i ≡ answered l →
    l.numbers ≡ numbers_of l.kind (take (fixed_size l.kind) (drop (l.start + 2) s))
numbers-told rules s i {l} p = (place_inside rules s i p).numbers ∙ ap (numbers_of l.kind) (fixed-there rules s i p)
