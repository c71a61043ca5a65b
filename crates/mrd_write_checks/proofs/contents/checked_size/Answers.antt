-- `mrd_write_checks::contents::checked_size` meets its contract: each kind goes by its name, its text, nothing, or its fixed part.
-- Assumes nothing.
use mathlib.Core.Path.{sym, ◌∙◌}
use Rattle.mrd_write_checks.specs.GivenLaws.{sized-text, sized_close, sized-acquisition, sized_image, sized-waveform}
use Rattle.mrd_write_checks.specs.NameLaws.{sized-name}
use Rattle.mrd_write_checks.proofs.contents.checked_size.Goals as goal

pub returns-in-ConfigurationName : goal.returns-in-ConfigurationName
returns-in-ConfigurationName c = rw c.in-ConfigurationName.is (c.checked_name.ensures ∙ sym (sized-name _ _ _))

pub returns-in-ConfigurationText : goal.returns-in-ConfigurationText
returns-in-ConfigurationText c = rw c.in-ConfigurationText.is (c.checked_text.ensures ∙ sym (sized-text _ _ _).0)

pub returns-in-HeaderText : goal.returns-in-HeaderText
returns-in-HeaderText c = rw c.in-HeaderText.is (c.checked_text-in-HeaderText.ensures ∙ sym (sized-text _ _ _).1.0)

pub returns-in-Close : goal.returns-in-Close
returns-in-Close c = rw c.in-Close.is (sym (sized_close _ _ _))

pub returns-in-Text : goal.returns-in-Text
returns-in-Text c = rw c.in-Text.is (c.checked_text-in-Text.ensures ∙ sym (sized-text _ _ _).1.1.0)

pub returns-in-Acquisition : goal.returns-in-Acquisition
returns-in-Acquisition c =
    let a = c.args in
    let long = rw c.in-Acquisition.is at c.requires in
    rw c.in-Acquisition.is (rw c.in-Acquisition.is at c.checked_fixed.ensures ∙ sym (sized-acquisition a.header.now a.name.now a.given long))

pub returns-in-Image : goal.returns-in-Image
returns-in-Image c =
    let a = c.args in
    let long = rw c.in-Image.is at c.requires in
    rw c.in-Image.is (c.checked_image.ensures ∙ sym (sized_image a.header.now a.name.now a.given long))

pub returns-in-Waveform : goal.returns-in-Waveform
returns-in-Waveform c =
    let a = c.args in
    let long = rw c.in-Waveform.is at c.requires in
    rw c.in-Waveform.is (rw c.in-Waveform.is at c.checked_fixed-in-Waveform.ensures ∙ sym (sized-waveform _ a.header.now a.name.now a.given long))
