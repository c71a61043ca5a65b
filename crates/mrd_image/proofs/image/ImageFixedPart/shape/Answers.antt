-- `mrd_image::image::ImageFixedPart::shape` meets its contract: each number is the one read at its offset.
-- Assumes nothing.
use Rattle.mrd_format.specs.Image.{numbers}
use Rattle.mrd_image.proofs.image.ImageFixedPart.shape.Goals as goal

pub returns : goal.returns
unfolding numbers
returns c =
    let read-u16 = c.read in
    let read-u162 = c.read-2 in
    simp (
      read-u16.ensures,
      read-u162.ensures,
      c.read-3.ensures,
      c.read-4.ensures,
      c.read-5.ensures,
      c.attribute_length.ensures,
    )
