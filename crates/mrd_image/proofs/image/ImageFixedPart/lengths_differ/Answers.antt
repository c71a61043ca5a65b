-- `mrd_image::image::ImageFixedPart::lengths_differ` meets its contract: the two tests are the definition's, of the numbers read at their offsets.
-- Assumes nothing.
use borrow.Author.Tests.{ne_eqb, eq-eqb}
use Rattle.mrd_image.proofs.image.ImageFixedPart.lengths_differ.Goals as goal

pub returns-then-unsaid : goal.returns-then-unsaid
returns-then-unsaid c = simp (← c.read-number.ensures, eq-eqb _ _ c.if-unsaid.true)

pub returns : goal.returns
returns c =
    simp (← c.read-number.ensures, ne_eqb _ _ c.if-unsaid.false, ← c.attribute_length.ensures)
