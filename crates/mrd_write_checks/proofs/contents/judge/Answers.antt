-- `mrd_write_checks::contents::judge` meets its contract: check 3, then what checks 4 to 10 leave, then check 18.
-- Assumes nothing.
use mathlib.Core.Path.{sym, ◌∙◌}
use Rattle.mrd_write_checks.specs.GivenLaws.{judged-passed_on, judged-header, judged-refused, judged-same, judged-differ, sized-size}
use Rattle.mrd_write_checks.proofs.contents.judge.Goals as goal

pub returns-then-header-header_size : goal.returns-then-header-header_size
returns-then-header-header_size c =
    sym (judged-header _ _ _ _ (λ e. c.if-header-header_size.true (e ∙ sym c.header_size.ensures)))

pub returns-in_err-size : goal.returns-in_err-size
returns-in_err-size c =
    judged-passed_on _ _ c.from_residual.ensures.1 ∙
    sym (judged-refused _ _ _ _ (c.if-header-header_size.false ∙ c.header_size.ensures) (sym c.in_err-size.ensures))

pub as_due-requires : goal.as_due-requires
as_due-requires c = (c.if-header-header_size.false ∙ c.header_size.ensures, sized-size _ _ _ _ (sym c.in_ok-size.ensures))

pub returns-then-not-as_due : goal.returns-then-not-as_due
returns-then-not-as_due c =
    sym
    (judged-differ _ _ _ _ (c.if-header-header_size.false ∙ c.header_size.ensures) (sym c.in_ok-size.ensures)
    (sym c.if-not-as_due.ensures))

pub returns : goal.returns
returns c =
    sym
    (judged-same _ _ _ _ (c.if-header-header_size.false ∙ c.header_size.ensures) (sym c.in_ok-size.ensures)
    (sym c.if-not-as_due.ensures))
