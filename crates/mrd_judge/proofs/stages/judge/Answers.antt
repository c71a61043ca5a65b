-- `mrd_judge::judge` meets its contract: the stage that refuses decides.
-- Assumes nothing.
use Rattle.std.proofs.Common.{sym, ap, ◌∙◌}
use Rattle.mrd_format.specs.Kinds.{identified}
use Rattle.mrd_format.specs.Refusals.{number-not-zero}
use Rattle.mrd_judge.specs.Judge.{judge_by, sorted}
use Rattle.mrd_judge.specs.JudgeLaws as laws
use Rattle.mrd_judge.proofs.stages.judge.Goals as goal

pub returns-in_err-judge_front : goal.returns-in_err-judge_front
unfolding judge_by
returns-in_err-judge_front c =
    let a = c.args in
    laws.refusal-passed_on _ _ c.from_residual.ensures.1 ∙
    ap sorted (sym (laws.front-stops _ _ a.c a.t.now (sym c.in_err-judge_front.ensures) (number-not-zero c.in_err-judge_front.field-0.0)))

pub read-requires : goal.read-requires
read-requires c = laws.front-two c.args.c c.args.t.now c.requires (sym c.in_ok-judge_front.ensures)

pub returns-in_err-kind : goal.returns-in_err-kind
unfolding judge_by
returns-in_err-kind c =
    let a = c.args in
    rw (ap (identified a.rules) (sym c.read.ensures) ∙ sym c.of_id-identified.ensures)
    (laws.refusal-passed_on _ _ c.from_residual-in_err-kind.ensures.1 ∙
    ap sorted (sym (laws.id-stops _ _ a.c a.t.now (sym c.in_ok-judge_front.ensures) (sym c.in_err-kind.ensures.refused) (number-not-zero c.in_err-kind.field-0.0))))

pub judge_body-requires : goal.judge_body-requires
judge_body-requires c = laws.front-two c.args.c c.args.t.now c.requires (sym c.in_ok-judge_front.ensures)

pub returns : goal.returns
unfolding judge_by
returns c =
    let a = c.args in
    let known = c.in_ok-kind.ensures.known in
    rw (ap (identified a.rules) (sym c.read.ensures) ∙ sym c.of_id-identified.ensures ∙ known)
    (c.judge_body.ensures ∙ ap sorted (sym (laws.id-passed _ _ a.c a.t.now (sym c.in_ok-judge_front.ensures)
    (sym (rw known at c.in_ok-kind.ensures.refused)))))
