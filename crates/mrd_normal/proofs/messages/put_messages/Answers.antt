-- `mrd_normal::messages::put_messages` meets its contract. The loop's invariant: out holds the normal form of the messages that were passed, and
-- then what was there before. The measure is the bytes of the stream left.
-- Assumes nothing.
use native.Mathlib.Omega.{arith}
use borrow.Author.Rules.{rules}
use Prim.Native.Nat.{◌+◌}
use Rattle.mrd_stream.specs.NextLaws as laws
use Rattle.mrd_stream.specs.StepLaws.{on_less}
use Rattle.mrd_normal.specs.Putting.{start, passed-message, same-room, next, finish, judged-faulty, judged-passes, judged-ends}
use Rattle.mrd_normal.proofs.messages.put_messages.Goals as goal

pub loop-c-init : goal.loop-c-init
loop-c-init c = rw c.beginning-c.ensures (start c.requires)

pub returns : goal.returns
returns c =
    let loop = c.loop-c in
    finish loop.invariant c.loop-c-test.false (laws.step-ended _ loop.c c.args.s.now c.loop-c-test.false)

pub overflow_add-end : goal.overflow_add-end
overflow_add-end c =
    let e = judged-ends c.loop-c.invariant c.loop-c-test.true c.kind-kind.ensures c.in-Ok.ensures in search rules

pub slice_bounds-put_message-end : goal.slice_bounds-put_message-end
slice_bounds-put_message-end c = (judged-ends c.loop-c.invariant c.loop-c-test.true c.kind-kind.ensures c.in-Ok.ensures).0

pub slice_bounds-put_message-end-in-loop-c : goal.slice_bounds-put_message-end-in-loop-c
slice_bounds-put_message-end-in-loop-c c =
    omega (arith, judged-ends c.loop-c.invariant c.loop-c-test.true c.kind-kind.ensures c.in-Ok.ensures)

pub put_message-requires : goal.put_message-requires
put_message-requires c =
    let loop = c.loop-c in
    let e = judged-ends loop.invariant c.loop-c-test.true c.kind-kind.ensures c.in-Ok.ensures in (
      passed-message (judged-passes loop.invariant c.loop-c-test.true c.kind-kind.ensures c.in-Ok.ensures),
      same-room loop.c.start (loop.c.start + c.in-Ok.whole.size) c.args.s.now loop.out e.0 (omega arith),
    )

pub after-c-requires : goal.after-c-requires
after-c-requires c =
    let p = judged-passes c.loop-c.invariant c.loop-c-test.true c.kind-kind.ensures c.in-Ok.ensures in
    let e = p.within in
    (p.few, search rules)

pub loop-c-smaller : goal.loop-c-smaller
loop-c-smaller c =
    rw c.after-c.ensures
    (on_less _ (judged-passes c.loop-c.invariant c.loop-c-test.true c.kind-kind.ensures c.in-Ok.ensures))

pub loop-c-preserved : goal.loop-c-preserved
loop-c-preserved c =
    let inv = c.loop-c.invariant in
    rw c.after-c.ensures
    (next inv (judged-passes inv c.loop-c-test.true c.kind-kind.ensures c.in-Ok.ensures) c.put_message.ensures)

pub returns-in_default : goal.returns-in_default
returns-in_default c = absurd (judged-faulty c.loop-c.invariant c.loop-c-test.true c.in_default.ensures)
