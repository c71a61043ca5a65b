-- `mrd_image::image::ImageFixedPart::check` meets its contract: the header's checks decide, and then check 9.
-- Assumes nothing.
use Prim.Native.Nat.{ℕ}
use mathlib.Core.Path.{◌≡◌, refl, sym, ◌∙◌}
use mathlib.Core.Bool.{Bool}
use mathlib.Core.List.{List, [], ◌∷◌}
use Rattle.mrd_logic.specs.Checks.{◌when◌, first}
use Rattle.mrd_logic.specs.CheckLaws.{first_decides, first_next}
use Rattle.mrd_format.specs.Refusals.{number-not-zero, number-passed_on}
use Rattle.mrd_format.specs.Image.{lengths_differ, header_checks, checks}
use Rattle.mrd_image.proofs.image.ImageFixedPart.check.Goals as goal

-- where the header passes, check 9 decides
last : (h : List ℕ) {b : Bool} → first (header_checks h) ≡ 0 → b ≡ lengths_differ h → first ((9 when b) ∷ []) ≡ first (checks h)
unfolding checks header_checks
last h passed e = rw e (sym (first_next (header_checks h) ((9 when lengths_differ h) ∷ []) refl passed))

pub returns-in_err-check : goal.returns-in_err-check
unfolding checks
returns-in_err-check c =
    let h = c.args.self.bytes.now in
    number-passed_on _ _ c.from_residual.ensures.1 ∙ sym (first_decides (header_checks h) _ (sym (rw c.header.ensures at c.in_err-check.ensures)) (number-not-zero c.in_err-check.field-0.0))

pub returns-then-lengths_differ : goal.returns-then-lengths_differ
returns-then-lengths_differ c =
    last c.args.self.bytes.now (sym (rw c.header.ensures at c.in_ok-check.ensures))
    (sym c.if-lengths_differ.true ∙ c.lengths_differ.ensures)

pub returns : goal.returns
returns c =
    last c.args.self.bytes.now (sym (rw c.header.ensures at c.in_ok-check.ensures))
    (sym c.if-lengths_differ.false ∙ c.lengths_differ.ensures)
