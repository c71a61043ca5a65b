-- `mrd_waveform::check` meets its contract: the test is that of the one check.
-- Assumes nothing.
use native.Mathlib.Omega.{arith}
use borrow.Author.Tests.{ne_eqb, eq-eqb}
use Rattle.mrd_format.specs.Waveform.{version, checks}
use Rattle.mrd_format.proofs.WaveformLaws.{elements-within, offset_in_lem, read_there}
use Rattle.mrd_waveform.proofs.waveform.WaveformHeader.check.Goals as goal

pub read-requires : goal.read-requires
read-requires c =
    omega (arith, offset_in_lem c.args.self.layout version c.offsets-at.ensures, c.args.self.long, (elements-within c.args.self.layout).0)

pub returns-then-read-ne1 : goal.returns-then-read-ne1
unfolding checks
returns-then-read-ne1 c =
    let a = c.args in
    let read = read_there a.self.layout version a.self.bytes.now (offset_in_lem a.self.layout version c.offsets-at.ensures) c.read.ensures in
    rw (← read, ne_eqb _ _ c.if-read-ne1.true)

pub returns : goal.returns
unfolding checks
returns c =
    let a = c.args in
    let read = read_there a.self.layout version a.self.bytes.now (offset_in_lem a.self.layout version c.offsets-at.ensures) c.read.ensures in
    rw (← read, eq-eqb _ _ c.if-read-ne1.false)
