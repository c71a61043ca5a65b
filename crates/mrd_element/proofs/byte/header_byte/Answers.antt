-- `mrd_element::header_byte` meets its contract: a byte that none of the elements before it holds is filler.
-- Assumes nothing.
use native.Mathlib.Omega.{arith}
use mathlib.Core.Path.{sym}
use Rattle.mrd_element.specs.PieceLaws.{element-over, none_over}
use Rattle.mrd_element.proofs.byte.header_byte.Goals as goal

pub returns-then-offset-back : goal.returns-then-offset-back
returns-then-offset-back c =
    sym (none_over _ _ _ c.requires c.loop-back.invariant (λ b l m. omega (arith, c.if-offset-back.true)))

pub returns-then-back-size : goal.returns-then-back-size
returns-then-back-size c =
    let w = c.width_at-size.ensures in
    let room = c.if-offset-back.false in
    rw w (sym (element-over _ _ _ (omega arith) (omega (arith, w, c.if-back-size.true, room))))

pub returns : goal.returns
returns c = sym (none_over _ _ _ c.requires c.loop-back.invariant (λ b l m. omega (arith, c.loop-back-test.false)))
