-- `mrd_judge::stages::read_texts` meets its contract: the texts decide.
-- Assumes nothing.
use Rattle.std.specs.Prelude.{take}
use Rattle.std.proofs.Common.{sym, ◌∙◌}
use Rattle.mrd_judge.specs.JudgeLaws.{texts-pass, texts-stop}
use Rattle.mrd_judge.proofs.stages.read_texts.Goals as goal

pub returns-then-message_is_utf8 : goal.returns-then-message_is_utf8
returns-then-message_is_utf8 c =
    let a = c.args in
    sym (texts-pass a.kind (take a.size a.t.now) (sym c.message_is_utf8.ensures ∙ c.if-message_is_utf8.true))

pub returns : goal.returns
returns c =
    let a = c.args in
    sym (texts-stop a.kind (take a.size a.t.now) (sym c.message_is_utf8.ensures ∙ c.if-message_is_utf8.false))
