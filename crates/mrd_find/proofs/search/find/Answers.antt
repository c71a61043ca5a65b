-- `mrd_find::find` meets its contract. The outer loop's invariant: the answer from the cursor on is the stream's. The inner loop's: the
-- counters compared so far are the same, so that the rest of them decides. The measure is the bytes left.
-- Assumes nothing.
use native.Mathlib.Omega.{arith}
use mathlib.Core.Path.{refl, sym, ◌∙◌}
use Rattle.mrd_format.specs.IdentityLaws.{counters-length}
use Rattle.mrd_stream.specs.StepLaws.{on-end}
use Rattle.mrd_stream.specs.ReaderMeaning.{concluded-told}
use Rattle.mrd_find.specs.Alike.{start, step, differs, all_same_lem}
use Rattle.mrd_find.specs.FindLaws.{find_in, finding-start, turned, nearer, no-candidate, header-fits, fixed-there, read, no-match, match-found}
use Rattle.mrd_find.proofs.search.find.Goals as goal

pub records-init : goal.records-init
records-init c =
    let a = c.args in
    rw c.beginning-c.ensures (finding-start _ a.n a.counters.now a.s.now)

pub records-smaller-then-not-candidate : goal.records-smaller-then-not-candidate
records-smaller-then-not-candidate c = nearer (turned _ _ _ c.records.invariant c.in-Message.ensures refl)

pub records-preserved-then-not-candidate : goal.records-preserved-then-not-candidate
records-preserved-then-not-candidate c =
    no-candidate (turned _ _ _ c.records.invariant c.in-Message.ensures refl) (sym c.if-not-candidate.ensures)

pub slice_bounds-of-count : goal.slice_bounds-of-count
slice_bounds-of-count c =
    omega (arith, header-fits (turned _ _ _ c.records.invariant c.in-Message.ensures refl) (sym c.if-not-candidate.ensures))

pub slice_bounds-of-start : goal.slice_bounds-of-start
slice_bounds-of-start c =
    omega (arith, header-fits (turned _ _ _ c.records.invariant c.in-Message.ensures refl) (sym c.if-not-candidate.ensures))

pub of-fixed-requires : goal.of-fixed-requires
of-fixed-requires c =
    fixed-there (turned _ _ _ c.records.invariant c.in-Message.ensures refl) (sym c.if-not-candidate.ensures)

pub loop-i-init : goal.loop-i-init
loop-i-init c = start (counters-length _) c.told-counters

pub records-smaller : goal.records-smaller
records-smaller c = nearer (turned _ _ _ c.records.invariant c.in-Message.ensures refl)

pub records-preserved : goal.records-preserved
records-preserved c =
    let turn = turned _ _ _ c.records.invariant c.in-Message.ensures refl in
    no-match (read turn (sym c.if-not-candidate.ensures) c.of-fixed.ensures.bytes)
    (differs c.loop-i.invariant c.loop-i-test.true (λ e. c.if-encoding_counter-counters.true (c.encoding_counter.ensures ∙ e)))

pub loop-i-preserved : goal.loop-i-preserved
loop-i-preserved c =
    step c.loop-i.invariant c.loop-i-test.true (sym c.encoding_counter.ensures ∙ c.if-encoding_counter-counters.false)

pub returns-in-Message : goal.returns-in-Message
returns-in-Message c =
    let turn = turned _ _ _ c.records.invariant c.in-Message.ensures refl in
    let found = match-found (read turn (sym c.if-not-candidate.ensures) c.of-fixed.ensures.bytes) (all_same_lem c.loop-i.invariant c.loop-i-test.false) in
    concluded-told (λ n. n) _ _ _ c.concluded.ensures.accepted c.concluded.ensures.refused ∙ rw (← c.check_from-rest.ensures) at found

pub returns-in-End : goal.returns-in-End
returns-in-End c =
    let a = c.args in
    let last = on-end a.rules (find_in a.n a.counters.now) a.s.now c.records.invariant (sym c.in-End.ensures) in
    concluded-told (λ n. n) _ _ _ c.concluded-in-End.ensures.accepted c.concluded-in-End.ensures.refused ∙ last
