-- `mrd_tagged::put_tag` meets its contract: the length is stored right after the tag.
-- Assumes nothing.
use mathlib.Core.Path.{◌∙◌}
use Rattle.mrd_tagged.specs.TaggedLaws.{heading-stored}
use Rattle.mrd_tagged.proofs.put.put_tag.Goals as goal

pub returns : goal.returns
returns c =
    let a = c.args in
    c.put_at.ensures ∙ heading-stored a.out.now a.at a.tag a.size c.requires
