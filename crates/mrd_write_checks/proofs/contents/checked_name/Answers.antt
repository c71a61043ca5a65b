-- `mrd_write_checks::contents::checked_name` meets its contract: the length decides, and then the search for a zero.
-- Assumes nothing.
use mathlib.Core.Path.{◌≡◌, sym}
use Rattle.mrd_bytes.specs.Bytes.{index_of}
use Rattle.mrd_write_checks.specs.NameLaws.{name-long, name-zero, name-sound}
use Rattle.mrd_write_checks.proofs.contents.checked_name.Goals as goal

pub returns-then-name-ge-NAME_FIXED : goal.returns-then-name-ge-NAME_FIXED
returns-then-name-ge-NAME_FIXED c = sym (name-long c.args.name.now c.if-name-ge-NAME_FIXED.true)

pub returns-then-find-name : goal.returns-then-find-name
returns-then-find-name c =
    let name = c.args.name.now in
    let at : c.find.result ≡ index_of 0 name = c.find.ensures.0 in
    sym (name-zero name c.if-name-ge-NAME_FIXED.false (rw (← at) c.if-find-name.true))

pub returns : goal.returns
returns c =
    let name = c.args.name.now in
    let at : c.find.result ≡ index_of 0 name = c.find.ensures.0 in
    sym (name-sound name c.if-name-ge-NAME_FIXED.false (rw (← at) c.if-find-name.false))
