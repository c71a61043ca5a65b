-- `mrd_judge::stages::judge_body` meets its contract: the stage that refuses decides, and where none does the message is whole.
-- Assumes nothing.
use Rattle.std.specs.Prelude.{Result, Ok, Err, ◌≡◌, refl}
use Rattle.std.specs.Result.{result_and}
use Rattle.std.proofs.Common.{sym, ap, ◌∙◌}
use Rattle.mrd_format.specs.declared.refusal.Refusal.{Refusal}
use Rattle.mrd_format.specs.Refusals.{number_in, number-not-zero}
use Rattle.mrd_format.specs.declared.rules.Profile.TheVariants.{Plain}
use Rattle.mrd_judge.specs.Judge.{sorted, refused_by, judgement_meaning}
use Rattle.mrd_judge.specs.JudgeLaws as laws
use Rattle.mrd_judge.proofs.stages.judge_body.Goals as goal

-- what has a number is a refusal, and stays one before any other
refused-first : (r : Result (Unit {0}) Refusal) (w : Refusal) → (number_in r ≡ 0 → ⊥) → judgement_meaning (result_and r (Err w)) ≡ refused_by (number_in r)
refused-first (Ok a) w n = absurd (n refl)
refused-first (Err e) w n = refl

pub returns-in_err-judge_fixed : goal.returns-in_err-judge_fixed
returns-in_err-judge_fixed c =
    let a = c.args in
    laws.refusal-passed_on _ _ c.from_residual.ensures.1 ∙
    ap sorted (sym (laws.fixed-stops Plain a.kind a.t.now (sym c.in_err-judge_fixed.ensures) (number-not-zero c.in_err-judge_fixed.field-0.0)))

pub of-requires : goal.of-requires
of-requires c = laws.fixed-fits c.args.kind c.args.t.now (sym c.in_ok-judge_fixed.ensures)

pub returns-then-too_large : goal.returns-then-too_large
returns-then-too_large c =
    let a = c.args in
    let some : number_in c.judge_size.result ≡ 0 → ⊥ = λ z. laws.size-large _ _ c.if-too_large.true (sym c.judge_size.ensures ∙ z) in
    ap judgement_meaning c.and.ensures ∙ refused-first c.judge_size.result _ some ∙
    ap sorted (sym (laws.size-stops Plain a.kind a.t.now (sym c.in_ok-judge_fixed.ensures)
    (rw (c.of.ensures.kind, c.of.ensures.bytes) at c.size-end.ensures)
    (sym c.judge_size.ensures) some))

pub returns-then-t-end : goal.returns-then-t-end
returns-then-t-end c =
    let a = c.args in
    let some : number_in c.judge_size-then-t-end.result ≡ 0 → ⊥ =
    λ z. laws.size-short _ _ c.if-t-end.true (sym c.judge_size-then-t-end.ensures ∙ z) in
    ap judgement_meaning c.and-then-t-end.ensures ∙ refused-first c.judge_size-then-t-end.result _ some ∙
    ap sorted (sym (laws.size-stops Plain a.kind a.t.now (sym c.in_ok-judge_fixed.ensures)
    (rw (c.of.ensures.kind, c.of.ensures.bytes) at c.size-end.ensures)
    (sym c.judge_size-then-t-end.ensures) some))

pub returns : goal.returns
returns c =
    let a = c.args in
    rw c.of-2.ensures
    (ap sorted (sym (laws.size-passed a.kind a.t.now (sym c.in_ok-judge_fixed.ensures)
    (rw (c.of.ensures.kind, c.of.ensures.bytes) at c.size-end.ensures)
    (laws.size_fits _ _ c.if-too_large.false c.if-t-end.false))))
