-- A stream has at most one cut. Nothing here speaks of the walk.
-- Assumes nothing.
use Rattle.std.specs.Prelude.{ℕ, ◌≡◌, refl, List, [], ◌∷◌, ◌++◌, length}
use Rattle.std.proofs.Common.{arith, sym, ap, ◌∙◌, length-append}
use Rattle.std.proofs.lemmas.List.{append_cancel_left}
use Rattle.mrd_format.specs.WellFormed.{WellFormed}
use Rattle.mrd_format.specs.MessageLaws.{well-least, prefix_free}
use Rattle.mrd_logic.specs.Every.{Every}
use Rattle.mrd_logic.specs.Joined.{joined}
use Rattle.mrd_cut.specs.Cut.{Cut}
use Rattle.mrd_format.specs.declared.rules.Rules.{Rules}

-- a well-formed message takes bytes
pub not-empty : {rules : Rules} (m rest : List ℕ) → WellFormed rules m → m ++ rest ≡ [] → ⊥
not-empty m rest w e = omega (arith, well-least m w, simp length-append at (ap length e))

-- well-formed messages that join to the same bytes are the same
pub joined_unique : (rules : Rules) (ms ns : List (List ℕ)) → Every (WellFormed rules) ms → Every (WellFormed rules) ns → joined ms ≡ joined ns → ms ≡ ns
joined_unique rules [] [] w v e = refl
joined_unique rules [] (n ∷ ns) w v e = absurd (not-empty n (joined ns) v.0 (sym e))
joined_unique rules (m ∷ ms) [] w v e = absurd (not-empty m (joined ms) w.0 e)
joined_unique rules (m ∷ ms) (n ∷ ns) w v e =
    let front : m ≡ n = prefix_free m n (joined ms) (joined ns) w.0 v.0 e in
    let same : m ++ joined ms ≡ m ++ joined ns = cc in
    let rest : ms ≡ ns = joined_unique rules ms ns w.1 v.1 (append_cancel_left m (joined ms) (joined ns) same) in
    cc

-- 'the only cut'
pub cut_unique : {rules : Rules} (s : List ℕ) (a b : Cut rules s) → a.pieces ≡ b.pieces
cut_unique {rules} s a b = joined_unique rules a.pieces b.pieces a.well b.well (a.whole ∙ sym b.whole)
