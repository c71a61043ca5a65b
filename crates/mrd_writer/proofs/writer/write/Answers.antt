-- `mrd_writer::writer::write` meets its contract: check 2, then what is given is judged by its lengths, and where it passes the output decides.
-- Assumes nothing.
use mathlib.Core.Path.{sym, ap, ◌∙◌}
use Rattle.mrd_logic.specs.Answer.{number}
use Rattle.mrd_format.specs.Refusals.{number_in}
use Rattle.mrd_write_checks.specs.GivenLaws.{judged-passed_on}
use Rattle.mrd_writer.specs.WriteLaws.{refused-contents, write_known, write_unknown}
use Rattle.mrd_writer.proofs.writer.write.Goals as goal

pub returns-in_err-kind : goal.returns-in_err-kind
returns-in_err-kind c =
    let none = c.in_err-kind.ensures.ok_part in
    let two = ap number (ap number_in (rw none at c.in_err-kind.ensures.value)) in
    let left = write_unknown _ _ _ _ _ (sym c.of_id.ensures ∙ none) in
    (judged-passed_on _ _ c.from_residual.ensures.1 ∙ two ∙ left.0, left.1)

pub store-requires : goal.store-requires
store-requires c = sym (rw c.lengths.ensures at c.in_ok-size.ensures)

pub returns-in_err-size : goal.returns-in_err-size
returns-in_err-size c =
    let left = write_known _ _ _ _ _ _ _ _ (sym c.of_id.ensures ∙ c.in_ok-kind.ensures.ok_part)
    (refused-contents _ _ _ _ _ (sym (rw c.lengths.ensures at c.in_err-size.ensures))) in
    (judged-passed_on _ _ c.from_residual-in_err-size.ensures.1 ∙ left.0, left.1)

pub returns : goal.returns
returns c = write_known _ _ _ _ _ _ _ _ (sym c.of_id.ensures ∙ c.in_ok-kind.ensures.ok_part) c.store.ensures
