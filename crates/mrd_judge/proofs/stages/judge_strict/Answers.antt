-- `mrd_judge::stages::judge_strict` meets its contract: a kind without a text passes.
-- Assumes nothing.
use Rattle.std.specs.Prelude.{◌≡◌, true, take}
use Rattle.std.proofs.Common.{sym, ap, inl, inr}
use Rattle.mrd_format.specs.ProfileLaws.{textless}
use Rattle.mrd_judge.specs.JudgeLaws.{textless-passes}
use Rattle.mrd_judge.proofs.stages.judge_strict.Goals as goal

pub returns-in-Close : goal.returns-in-Close
returns-in-Close c =
    let a = c.args in
    let lacks : textless a.kind ≡ true = elim c.in-Close.is [ inl e ↦ ap textless e | inr (inl e) ↦ ap textless e | inr (inr (l, e)) ↦ ap textless e ] in
    sym (textless-passes a.kind lacks (take a.size a.t.now))
