-- `mrd_image::image::ImageFixedPart::body_size` meets its contract: both summands may be capped first.
-- Assumes nothing.
use native.Mathlib.Omega.{arith}
use Rattle.mrd_format.specs.Image.{body_size}
use Rattle.mrd_format.specs.SizeLaws.{capped_twice, capped-sum}
use Rattle.mrd_image.proofs.image.ImageFixedPart.body_size.Goals as goal

pub returns : goal.returns
unfolding body_size
returns c =
    let pixels = c.pixels_size-pixels in (
      capped-sum _ _ _ _ (simp (c.cap.ensures, c.attribute_length.ensures, capped_twice)) (rw c.header.ensures at pixels.ensures.0),
      omega (arith, c.cap.ensures, pixels.ensures.1),
    )
