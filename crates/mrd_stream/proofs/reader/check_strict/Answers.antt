-- `mrd_stream::reader::check_strict` meets its contract. The loop's invariant: the answer from the cursor on is the answer from the first cursor on.
-- The measure is the bytes left.
-- Assumes nothing.
use mathlib.Core.Path.{refl, sym, ap, ◌∙◌}
use Rattle.mrd_stream.specs.Walk.{verdict}
use Rattle.mrd_stream.specs.StepLaws.{kept_next, kept-end, on_less, step-yields}
use Rattle.mrd_stream.specs.ReaderMeaning.{step_meaning}
use Rattle.mrd_stream.proofs.reader.check_strict.Goals as goal

pub loop-after-smaller : goal.loop-after-smaller
loop-after-smaller c =
    let loop = c.loop-after in
    let s = c.args.s.now in
    on_less s (step-yields _ loop.c s (sym c.next.ensures ∙ ap step_meaning c.in-Message.is))

pub loop-after-preserved : goal.loop-after-preserved
loop-after-preserved c =
    let loop = c.loop-after in
    let s = c.args.s.now in
    kept_next _ verdict s verdict loop.invariant
    (step-yields _ loop.c s (sym c.next.ensures ∙ ap step_meaning c.in-Message.is)) (λ r. refl)

pub returns-in-End : goal.returns-in-End
returns-in-End c =
    let loop = c.loop-after in
    let s = c.args.s.now in
    kept-end _ verdict s loop.c loop.invariant (sym c.next.ensures ∙ ap step_meaning c.in-End.is)
