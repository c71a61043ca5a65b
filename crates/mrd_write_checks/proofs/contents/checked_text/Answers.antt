-- `mrd_write_checks::contents::checked_text` meets its contract: the test is check 10.
-- Assumes nothing.
use mathlib.Core.Path.{sym}
use Rattle.mrd_write_checks.specs.GivenLaws.{text-long, text-sound}
use Rattle.mrd_write_checks.proofs.contents.checked_text.Goals as goal

pub returns-then-head-text : goal.returns-then-head-text
returns-then-head-text c = sym (text-long c.args.text c.if-head-text.true)

pub returns : goal.returns
returns c = sym (text-sound c.args.text c.if-head-text.false)
