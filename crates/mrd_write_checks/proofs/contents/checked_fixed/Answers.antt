-- `mrd_write_checks::contents::checked_fixed` meets its contract: each return is one place in the order of checks 4 to 10.
-- Assumes nothing.
use native.Mathlib.Omega.{arith}
use mathlib.Core.Path.{sym, ◌∙◌}
use Rattle.mrd_format.specs.Message.{own_checks, size_of}
use Rattle.mrd_format.specs.OwnCheckLaws.{own-numbered}
use Rattle.mrd_write_checks.specs.GivenLaws.{judged-passed_on, own-refused, over-limit, within-limit}
use Rattle.mrd_write_checks.proofs.contents.checked_fixed.Goals as goal

pub returns-in_err-check : goal.returns-in_err-check
returns-in_err-check c =
    judged-passed_on _ _ c.from_residual.ensures.1 ∙ sym (own-refused _ _ _ (sym c.in_err-check.ensures))

pub returns-then-size-gt-MAX_MESSAGE_SIZE : goal.returns-then-size-gt-MAX_MESSAGE_SIZE
returns-then-size-gt-MAX_MESSAGE_SIZE c =
    let a = c.args in
    sym
    (over-limit (own_checks a.fixed.kind a.fixed.bytes.now) (size_of a.fixed.kind a.fixed.bytes.now) (own-numbered a.fixed.kind a.fixed.bytes.now)
    (sym c.in_ok-check.ensures) _
    (omega (arith, c.size-size.ensures)) c.if-size-gt-MAX_MESSAGE_SIZE.true)

pub returns : goal.returns
returns c =
    let a = c.args in
    sym
    (within-limit (own_checks a.fixed.kind a.fixed.bytes.now) (size_of a.fixed.kind a.fixed.bytes.now) (own-numbered a.fixed.kind a.fixed.bytes.now)
    (sym c.in_ok-check.ensures) _
    (omega (arith, c.size-size.ensures)) c.if-size-gt-MAX_MESSAGE_SIZE.false)
