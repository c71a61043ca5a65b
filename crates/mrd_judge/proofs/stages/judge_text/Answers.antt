-- `mrd_judge::judge_text` meets its contract: by the profile.
-- Assumes nothing.
use mathlib.Core.Path.{sym}
use lib.ListN.{take}
use Rattle.mrd_judge.specs.JudgeLaws.{plain_passes}
use Rattle.mrd_judge.proofs.stages.judge_text.Goals as goal

pub returns-in-Plain : goal.returns-in-Plain
returns-in-Plain c =
    let a = c.args in
    rw c.in-Plain.is (sym (plain_passes a.kind (take a.size a.t.now)))

pub returns-in-Strict : goal.returns-in-Strict
returns-in-Strict c = rw c.in-Strict.is c.judge_strict.ensures
