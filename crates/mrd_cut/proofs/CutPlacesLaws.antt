-- The places that the walk of an accepted stream gives are those of the messages of its only cut, and they adjoin.
-- Assumes nothing.
use Rattle.std.specs.Prelude.{ℕ, ◌+◌, ◌≡◌, refl, List, [], ◌∷◌, ◌++◌, map, length}
use Rattle.std.proofs.Common.{add-zero, zero-add, arith, sym, ap, ap₂, ◌∙◌, append_assoc, length-append, drop_at}
use Rattle.std.proofs.Math.Seq.{take-append_seam}
use Rattle.mrd_format.specs.declared.rules.Rules.{Rules}
use Rattle.mrd_cursor.specs.declared.cursor.Cursor.{Cursor}
use Rattle.mrd_logic.specs.Answer.{accepted}
use Rattle.mrd_stream.specs.Walk.{Trace, trace, answer}
use Rattle.mrd_stream.specs.Places.{located, places}
use Rattle.mrd_logic.specs.Joined.{joined}
use Rattle.mrd_cut.specs.Unique.{cut_unique}
use Rattle.mrd_cut.proofs.AcceptedLaws.{accepted-cut}
use Rattle.mrd_cut.specs.Walked.{Walks, pieces_of}
use Rattle.mrd_cut.specs.Walked.{ends, faults, meets}
use Rattle.mrd_cut.proofs.WalkedLaws.{walks}
use Rattle.mrd_cut.specs.CutPlaces.{part_at, placed_pieces, Adjoin, AnsweredCut}

-- the places of a walk name the messages that it met
pub places-pieces : {rules : Rules} {c : Cursor} {s : List ℕ} {r : Trace} → Walks rules c s r → (before : List ℕ) → length before ≡ c.start →
    map (part_at (before ++ s)) (places r) ≡ pieces_of r
places-pieces ends before h = refl
places-pieces (faults e) before h = refl
places-pieces (meets {c} {m} {rest} {r} w a n v) before h =
    let here : part_at (before ++ (m ++ rest)) (located c w.kind m) ≡ m = rw (drop_at before (m ++ rest) c.start h, take-append_seam) in
    let far : length (before ++ m) ≡ c.start + length m = simp (length-append, h) in
    let later : map (part_at (before ++ (m ++ rest))) (places r) ≡ pieces_of r = rw append_assoc at (places-pieces v (before ++ m) far) in
    ap₂ (λ (l : List ℕ) (ls : List (List ℕ)). l ∷ ls) here later

-- the places of a walk adjoin, as the messages do that it met
places-adjoin : {rules : Rules} {c : Cursor} {s : List ℕ} {r : Trace} → Walks rules c s r → Adjoin c.start (places r) (c.start + length (joined (pieces_of r)))
places-adjoin (ends {c}) = sym (add-zero c.start)
places-adjoin (faults {c} e) = sym (add-zero c.start)
places-adjoin (meets {c} {m} {rest} {r} w a n v) =
    let far : c.start + length m + length (joined (pieces_of r)) ≡ c.start + length (m ++ joined (pieces_of r)) =
    simp length-append (omega arith) in
    (refl, rw far at (places-adjoin v))

-- the answered places cut an accepted stream
pub places-cut : (rules : Rules) (s : List ℕ) (n : ℕ) → answer rules s ≡ accepted n → AnsweredCut rules s n
places-cut rules s n e =
    let c = accepted-cut rules s e in
    let cut = c.0.cut in
    let same : placed_pieces rules s ≡ cut.pieces = places-pieces (walks rules s) [] refl ∙ sym c.1 in
    let all : joined (pieces_of (trace rules s)) ≡ s = ap joined (sym c.1) ∙ cut.whole in
    record {
      well = rw same cut.well;
      whole = rw same cut.whole;
      count = rw same c.2;
      only = λ other. cut_unique s other cut ∙ sym same;
      adjoin = rw (all, zero-add) at (places-adjoin (walks rules s));
    }
