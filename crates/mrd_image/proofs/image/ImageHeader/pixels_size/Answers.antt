-- `mrd_image::image::ImageHeader::pixels_size` meets its contract: the first factor may be capped.
-- Assumes nothing.
use Prim.Native.Nat.{◌*◌, ◌≤◌}
use native.Mathlib.Omega.{arith}
use Rattle.mrd_format.specs.Image.{pixels_size}
use Rattle.mrd_format.specs.SizeLaws.{product, capped-product}
use Rattle.mrd_image.proofs.image.ImageHeader.pixels_size.Goals as goal

pub overflow_mul-result : goal.overflow_mul-result
overflow_mul-result c =
    let bounded :
    c.cap.result * c.element_size.result ≤ 268435457 * 16 =
    product {a = c.cap.result} {b = c.element_size.result} {x = 268435457} {y = 16}
    (omega (arith, c.cap.ensures)) c.element_size.ensures.1 in
    omega (arith, bounded)

pub returns : goal.returns
unfolding pixels_size
returns c =
    let bounded :
    c.cap.result * c.element_size.result ≤ 268435457 * 16 =
    product {a = c.cap.result} {b = c.element_size.result} {x = 268435457} {y = 16}
    (omega (arith, c.cap.ensures)) c.element_size.ensures.1 in (
      simp (
        c.cap.ensures,
        c.pixel_count.ensures,
        c.element_size.ensures.0,
        c.read.ensures,
        capped-product,
      ),
      omega (arith, bounded),
    )
