-- `mrd_write_checks::contents::checked_image` meets its contract: the header's checks decide, and then check 10, for which both summands may be
-- capped.
-- Assumes nothing.
use Prim.Native.Nat.{ℕ, ◌+◌}
use mathlib.Core.Path.{◌≡◌, refl, sym, ◌∙◌}
use mathlib.Core.Bool.{true}
use mathlib.Core.List.{List}
use Rattle.mrd_logic.specs.CheckLaws.{numbered}
use Rattle.mrd_format.specs.Image.{header_checks, pixels_size}
use Rattle.mrd_format.specs.Sizes.{capped}
use Rattle.mrd_format.specs.SizeLaws.{capped_twice, capped-sum}
use Rattle.mrd_write_checks.specs.Sized.{image_size}
use Rattle.mrd_write_checks.specs.GivenLaws.{judged-passed_on, own-refused, over-limit, within-limit}
use Rattle.mrd_write_checks.proofs.contents.checked_image.Goals as goal

-- no check of the header has the number 0
counted : (h : List ℕ) → numbered (header_checks h) ≡ true
unfolding header_checks
counted h = refl

-- the size, each summand capped
size-capped : (h : List ℕ) (attributes x y : ℕ) → x ≡ capped attributes → capped y ≡ capped (pixels_size h) →
    capped (208 + (x + y)) ≡ capped (image_size h attributes)
size-capped h attributes x y e p =
    capped-sum 208 (x + y) 208 (attributes + pixels_size h) refl (capped-sum x y attributes (pixels_size h) (rw e (capped_twice attributes)) p)

pub returns-in_err-check : goal.returns-in_err-check
returns-in_err-check c =
    judged-passed_on _ _ c.from_residual.ensures.1 ∙ sym (own-refused _ _ _ (sym c.in_err-check.ensures))

pub returns-then-too_large : goal.returns-then-too_large
returns-then-too_large c =
    let a = c.args in
    let h = a.header.bytes.now in
    sym
    (over-limit (header_checks h) (image_size h a.attributes) (counted h) (sym c.in_ok-check.ensures) _
    (size-capped h a.attributes _ _ c.cap.ensures c.pixels_size.ensures.0) c.if-too_large.true)

pub returns : goal.returns
returns c =
    let a = c.args in
    let h = a.header.bytes.now in
    sym
    (within-limit (header_checks h) (image_size h a.attributes) (counted h) (sym c.in_ok-check.ensures) _
    (size-capped h a.attributes _ _ c.cap.ensures c.pixels_size.ensures.0) c.if-too_large.false)
