-- `mrd_image::image::element_size` meets its contract: the table is that of the definition.
-- Assumes nothing.
use native.Mathlib.Omega.{arith}
use mathlib.Core.List.{[], ◌∷◌}
use mathlib.Core.Path.{sym, refl}
use lib.ListN.{get_or-eq_default}
use Rattle.mrd_format.specs.Image.{element_size}
use Rattle.mrd_format.specs.SizeLaws.{element_size-small}
use Rattle.mrd_image.proofs.image.element_size.Goals as goal

pub returns-then-t-lt9 : goal.returns-then-t-lt9
unfolding element_size
returns-then-t-lt9 c = (refl, element_size-small c.args.data_type)

pub returns-else-t-lt9 : goal.returns-else-t-lt9
unfolding element_size
returns-else-t-lt9 c = (sym (get_or-eq_default (0 ∷ 2 ∷ 2 ∷ 4 ∷ 4 ∷ 4 ∷ 8 ∷ 8 ∷ 16 ∷ []) 0 c.if-t-lt9.false), omega arith)
