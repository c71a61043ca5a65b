-- `mrd_utf8::is_utf8` meets its contract: all octets read from the start, and nothing due at the end. Assumes nothing.
use mathlib.Core.Path.{ap, ◌∙◌}
use mathlib.Core.List.{List}
use Rattle.mrd_utf8.specs.Utf8.{Range}
use Rattle.mrd_utf8.specs.Fold.{run, done, utf8_of}
use Rattle.mrd_utf8.proofs.is_utf8.Goals as goal

pub returns : goal.returns
unfolding utf8_of
returns c =
    let s = c.args.s.now in
    c.is_done.ensures ∙ ap done (c.read.ensures ∙ ap (λ (due : List Range). run due s) c.start.ensures)
