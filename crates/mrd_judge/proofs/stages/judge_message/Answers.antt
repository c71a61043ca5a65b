-- `mrd_judge::judge_message` meets its contract: the checks of the texts decide where all others passed.
-- Assumes nothing.
use Rattle.std.proofs.Common.{sym, ◌∙◌}
use Rattle.mrd_format.specs.Refusals.{number-not-zero}
use Rattle.mrd_judge.specs.JudgeLaws.{message-refusal-passed_on}
use Rattle.mrd_judge.specs.TextLaws.{faulty-too, taken, text-passes, text-refuses}
use Rattle.mrd_judge.proofs.stages.judge_message.Goals as goal

pub returns-in_err-whole : goal.returns-in_err-whole
returns-in_err-whole c =
    let a = c.args in
    message-refusal-passed_on _ _ c.from_residual.ensures.1 ∙ sym (faulty-too a.rules a.c a.t.now c.in_err-whole.ensures)

pub judge_text-requires : goal.judge_text-requires
judge_text-requires c =
    let a = c.args in
    rw c.kind-kind.ensures (taken a.rules a.c a.t.now c.in_ok-whole.ensures)

pub returns-in_err-judge_text : goal.returns-in_err-judge_text
returns-in_err-judge_text c =
    let a = c.args in
    message-refusal-passed_on _ _ c.from_residual-in_err-judge_text.ensures.1 ∙
    sym (text-refuses a.rules a.c a.t.now c.in_ok-whole.ensures (sym (rw c.kind-kind.ensures at c.in_err-judge_text.ensures)) (number-not-zero c.in_err-judge_text.field-0.0))

pub returns : goal.returns
returns c =
    let a = c.args in
    rw c.kind-kind.ensures (sym (text-passes a.rules a.c a.t.now c.in_ok-whole.ensures (sym (rw c.kind-kind.ensures at c.in_ok-judge_text.ensures))))
