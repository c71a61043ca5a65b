-- `mrd_salvage::reach::walk` meets its contract. The loop's invariant: what is reached from the cursor on is what the stream reaches. The measure is
-- the bytes left.
-- Assumes nothing.
use Rattle.std.proofs.Common.{rules, sym, ◌∙◌}
use Rattle.mrd_numbers.specs.Stored.{part-from}
use Rattle.mrd_stream.specs.StepLaws.{on_less}
use Rattle.mrd_salvage.specs.ReachLaws.{start, ended, stopped, passed, next}
use Rattle.mrd_salvage.proofs.reach.walk.Goals as goal

pub loop-c-init : goal.loop-c-init
loop-c-init c = let a = c.args in rw c.beginning-c.ensures (start a.rules a.s.now)

pub returns-in_default : goal.returns-in_default
returns-in_default c =
    let a = c.args in
    c.at.ensures ∙ stopped a.rules a.s.now c.loop-c.invariant c.loop-c-test.true (rw part-from at (sym c.in_default.ensures))

pub after-c-requires : goal.after-c-requires
after-c-requires c =
    let a = c.args in
    let p = passed a.rules a.s.now c.loop-c.invariant c.loop-c-test.true (rw part-from at (sym c.in-Ok.ensures)) in
    let within = p.within in
    (p.few, search rules)

pub loop-c-smaller : goal.loop-c-smaller
loop-c-smaller c =
    let a = c.args in
    rw c.after-c.ensures (on_less a.s.now (passed a.rules a.s.now c.loop-c.invariant c.loop-c-test.true (rw part-from at (sym c.in-Ok.ensures))))

pub loop-c-preserved : goal.loop-c-preserved
loop-c-preserved c =
    let a = c.args in
    rw c.after-c.ensures (next a.rules a.s.now c.loop-c.invariant c.loop-c-test.true (rw part-from at (sym c.in-Ok.ensures)))

pub returns : goal.returns
returns c =
    let a = c.args in
    c.at-2.ensures ∙ ended a.rules a.s.now c.loop-c.invariant c.loop-c-test.false
