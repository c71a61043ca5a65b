-- `mrd_stream::next` meets its contract: the bytes from the cursor's start on are judged, and a whole message is given as a record.
-- Assumes nothing.
use Rattle.std.proofs.Common.{rules, sym, ap, ◌∙◌}
use Rattle.mrd_numbers.specs.Stored.{part-from}
use Rattle.mrd_stream.specs.NextLaws as laws
use Rattle.mrd_stream.specs.Places.{over}
use Rattle.mrd_stream.proofs.reader.next.Goals as goal

pub returns-then-s-c : goal.returns-then-s-c
returns-then-s-c c =
    let a = c.args in
    ap over c.ended.ensures ∙ sym (laws.step-ended _ a.c a.s.now c.if-s-c.true)

pub of-requires : goal.of-requires
of-requires c =
    let a = c.args in
    rw part-from (laws.whole-fixed _ a.c a.s.now c.if-s-c.false (rw part-from at (sym c.in-Ok.ensures)))

pub yields-requires : goal.yields-requires
yields-requires c =
    let a = c.args in
    let found = rw part-from at (sym c.in-Ok.ensures) in
    let size = laws.whole-ends _ a.c a.s.now c.if-s-c.false found in
    (laws.whole-counted _ a.c a.s.now c.if-s-c.false found, search rules)

pub returns-in-Ok : goal.returns-in-Ok
returns-in-Ok c =
    let a = c.args in
    let found = rw part-from at (sym c.in-Ok.ensures) in
    rw (c.of.ensures.kind, c.of.ensures.bytes, part-from) at c.yields.ensures ∙ laws.step-yields-record _ a.c a.s.now c.if-s-c.false found

pub returns-in-Err : goal.returns-in-Err
returns-in-Err c =
    let a = c.args in
    ap over c.refused.ensures ∙ sym (laws.step-faulty _ a.c a.s.now c.if-s-c.false (rw part-from at (sym c.in-Err.ensures)))
