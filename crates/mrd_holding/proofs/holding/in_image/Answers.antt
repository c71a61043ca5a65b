-- `mrd_holding::holding::in_image` meets its contract: past the attributes come pixels to the message's end.
-- Assumes nothing.
use Prim.Native.Nat.{◌+◌, ◌-◌}
use native.Mathlib.Omega.{arith}
use mathlib.Core.Path.{◌≡◌, refl}
use Rattle.mrd_format.specs.declared.kind.Kind.{Kind}
use Rattle.mrd_format.specs.Parts.{pixels}
use Rattle.mrd_format.specs.Image.{attribute_length, pixels_size}
use Rattle.mrd_parts.specs.PartLaws.{image_rest}
use Rattle.mrd_holding.specs.HeldLaws.{part-told}
use Rattle.mrd_holding.proofs.holding.in_image.Goals as goal

pub returns : goal.returns
returns c =
    let h = c.args.fixed.bytes.now in
    let n = c.attribute_length-attributes.ensures in
    let all = image_rest c.requires.sized in
    let left : c.args.size - (208 + attribute_length h) ≡ pixels_size h = omega (arith, all) in
    rw (c.held-2.ensures, n, left)
    (part-told Kind.Image _ _ c.args.at c.requires.sized 4 pixels _ _ refl refl (omega (arith, n, c.if-at-pixels.false)) (omega (arith, all, c.requires.high)))
