-- `mrd_image::image::ImageHeader::pixel_count` meets its contract: two products below 2 ^ 32 multiply to less than 2 ^ 64.
-- Assumes nothing.
use native.Mathlib.Nat.{mul_assoc}
use native.Mathlib.Omega.{arith}
use borrow.Author.Rules.{rules}
use Rattle.mrd_format.specs.Image.{pixel_count}
use Rattle.mrd_format.specs.SizeLaws.{product}
use Rattle.mrd_image.proofs.image.ImageHeader.pixel_count.Goals as goal

pub overflow_mul-result : goal.overflow_mul-result
overflow_mul-result c = omega (
  arith,
  product {a = c.product-plane.result} {b = c.product-planes.result} {x = 4294967295} {y = 4294967295}
      (search rules) (search rules),
)

pub returns : goal.returns
unfolding pixel_count
returns c =
    let read-u16 = c.read in
    let read-u162 = c.read-2 in
    simp (
      c.product-plane.ensures.0,
      c.product-planes.ensures.0,
      read-u16.ensures,
      read-u162.ensures,
      c.read-3.ensures,
      c.read-4.ensures,
      mul_assoc,
    )
