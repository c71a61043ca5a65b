-- `mrd_stream::place` meets its contract. The loop's invariant: seeking on from the cursor, with what was found, gives the place asked for.
-- The measure is the bytes left.
-- Assumes nothing.
use Rattle.std.proofs.Common.{refl, sym, ap, ◌∙◌, Err}
use Rattle.mrd_logic.specs.Answer.{number}
use Rattle.mrd_stream.specs.declared.refused.Refused.TheVariants.{Stream}
use Rattle.mrd_stream.specs.Seek.{seek, seek-place, seek-next, kept_by}
use Rattle.mrd_stream.specs.StepLaws.{on-start, on-next, on-end, on_less, step-yields}
use Rattle.mrd_stream.specs.ReaderMeaning.{placed_meaning, record_meaning, step_meaning, refused-first, accepted-first}
use Rattle.mrd_stream.proofs.reader.place.Goals as goal

pub loop-record-init : goal.loop-record-init
loop-record-init c =
    let a = c.args in
    rw (c.beginning-c.ensures, ← seek-place _ a.s.now a.n) (on-start _ (seek a.n (number 16)) a.s.now)

pub loop-record-smaller : goal.loop-record-smaller
loop-record-smaller c =
    let a = c.args in
    let loop = c.loop-record in
    let next = c.next in
    on_less a.s.now (step-yields _ loop.c a.s.now (sym next.ensures ∙ ap step_meaning c.in-Message.is))

pub loop-record-preserved : goal.loop-record-preserved
loop-record-preserved c =
    let a = c.args in
    let loop = c.loop-record in
    let next = c.next in
    let p = step-yields _ loop.c a.s.now (sym next.ensures ∙ ap step_meaning c.in-Message.is) in
    let before = placed_meaning loop.found in
    rw c.kept-found.ensures
    (on-next _
    (seek a.n before) a.s.now
    (seek a.n (kept_by (record_meaning c.in-Message.record) a.n before)) loop.invariant p
    (seek-next a.n before loop.c p.kind p.bytes p.place))

pub returns-in-End-Ok : goal.returns-in-End-Ok
returns-in-End-Ok c =
    let loop = c.loop-record in
    accepted-first record_meaning loop.found c.in-End-Ok.field-0-is
    (on-end _ (seek c.args.n (placed_meaning loop.found)) c.args.s.now loop.invariant (sym c.in-End-Ok.ensures))

pub returns-in-End-Err : goal.returns-in-End-Err
returns-in-End-Err c =
    let loop = c.loop-record in
    rw c.in-End-Err.refusal-is (refused-first record_meaning loop.found (Err (Stream c.in-End-Err.refusal)) c.in-End-Err.field-0-is refl
    (on-end _ (seek c.args.n (placed_meaning loop.found)) c.args.s.now loop.invariant (sym c.in-End-Err.ensures)))
