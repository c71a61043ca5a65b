-- `mrd_part_at::holder::record_holding` meets its contract. The loop's invariant: the walk has not passed the byte, and the answer from the cursor on
-- is the answer wanted. The measure is the bytes left.
-- Assumes nothing.
use mathlib.Core.Path.{sym, ◌∙◌}
use Rattle.mrd_stream.specs.ReaderMeaning.{record_meaning, concluded-told}
use Rattle.mrd_stream.specs.StepLaws.{on-end, on_less, step-yields}
use Rattle.mrd_part_at.specs.PartAtLaws.{holder_in, seeking_start, seek-on, seek_found}
use Rattle.mrd_part_at.proofs.holder.record_holding.Goals as goal

pub loop-here-init : goal.loop-here-init
loop-here-init c =
    let a = c.args in
    rw c.beginning-c.ensures (seeking_start _ a.byte a.s.now)

pub returns-then-byte-after : goal.returns-then-byte-after
returns-then-byte-after c =
    let passes = step-yields _ _ _ (sym c.in-Message.ensures) in
    let found = seek_found c.loop-here.invariant passes c.if-byte-after.true in
    concluded-told record_meaning _ _ _ c.concluded.ensures.accepted c.concluded.ensures.refused ∙ rw (← c.check_from-rest.ensures) at found

pub loop-here-smaller : goal.loop-here-smaller
loop-here-smaller c = on_less c.args.s.now (step-yields _ _ _ (sym c.in-Message.ensures))

pub loop-here-preserved : goal.loop-here-preserved
loop-here-preserved c =
    let passes = step-yields _ _ _ (sym c.in-Message.ensures) in
    seek-on c.loop-here.invariant passes c.if-byte-after.false

pub returns-in-End : goal.returns-in-End
returns-in-End c =
    let a = c.args in
    let last = on-end a.rules (holder_in a.byte) a.s.now c.loop-here.invariant.on (sym c.in-End.ensures) in
    concluded-told record_meaning _ _ _ c.concluded-in-End.ensures.accepted c.concluded-in-End.ensures.refused ∙ last
