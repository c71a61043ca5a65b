-- `mrd_acquisition::acquisition::mask` meets its contract: a mask is all zero exactly when it has no ones.
-- Assumes nothing.
use borrow.Author.Tests.{ne_eqb, eq-eqb}
use Rattle.mrd_format.specs.Acquisition.{mask_answer}
use Rattle.mrd_format.specs.MaskLaws.{all-zero}
use Rattle.mrd_acquisition.proofs.acquisition.AcquisitionHeader.mask.Goals as goal

pub returns-then-ones-eq0 : goal.returns-then-ones-eq0
unfolding mask_answer
returns-then-ones-eq0 c = simp (all-zero, ← c.mask_ones-ones.ensures, eq-eqb _ _ c.if-ones-eq0.true)

pub returns-then-ones-read : goal.returns-then-ones-read
unfolding mask_answer
returns-then-ones-read c =
    simp (all-zero, ← c.mask_ones-ones.ensures, ne_eqb _ _ c.if-ones-eq0.false, ← c.read.ensures, eq-eqb _ _ c.if-ones-read.true)

pub returns : goal.returns
unfolding mask_answer
returns c =
    simp (all-zero, ← c.mask_ones-ones.ensures, ne_eqb _ _ c.if-ones-eq0.false, ← c.read.ensures, ne_eqb _ _ c.if-ones-read.false)
