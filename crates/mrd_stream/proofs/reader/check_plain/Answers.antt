-- `mrd_stream::reader::check_plain` meets its contract. The loop's invariant: the answer from the cursor on is the answer from the first cursor on.
-- The measure is the bytes left.
-- Assumes nothing.
use Rattle.std.specs.Prelude.{ℕ, ◌≡◌, List}
use Rattle.std.proofs.Common.{rules, refl, ap, ◌∙◌}
use Rattle.mrd_numbers.specs.Stored.{part-from}
use Rattle.mrd_format.specs.declared.rules.Rules.{Rules}
use Rattle.mrd_format.specs.declared.rules.Profile.TheVariants.{Plain}
use Rattle.mrd_cursor.specs.declared.cursor.Cursor.{Cursor}
use Rattle.mrd_stream.specs.NextLaws as laws
use Rattle.mrd_stream.specs.Walk.{verdict}
use Rattle.mrd_stream.specs.StepLaws.{kept_next, kept-end, on_less, step-yields}
use Rattle.mrd_judge.specs.declared.sort.Sort.{Sort}
use Rattle.mrd_judge.specs.Sorts.{kind_in}
use Rattle.mrd_judge.specs.Judge.{judge, judge_by, whole, passes, sorted}
use Rattle.mrd_judge.specs.TextLaws.{judged-plain, faulty-too}
use Rattle.mrd_judge.specs.WholeLaws as judged
use Rattle.mrd_stream.proofs.reader.check_plain.Goals as goal

-- in the plain profile a message that passes every check but that of its texts is whole
whole-plain : (rules : Rules) (c : Cursor) (t : List ℕ) {o : Sort} {z : ℕ} → rules.profile ≡ Plain → passes o z ≡ sorted (judge_by Plain rules c t) →
    judge rules c t ≡ whole (kind_in rules o) z
whole-plain rules c t plain e = judged.found-whole rules c t (e ∙ ap sorted (judged-plain rules c t plain))

pub after-c-requires : goal.after-c-requires
after-c-requires c =
    let loop = c.loop-c in
    let s = c.args.s.now in
    let found = whole-plain c.args.rules loop.c _ c.requires (rw part-from at c.in-Ok.ensures) in
    let size = laws.whole-ends _ loop.c s c.loop-c-test.true found in
    (laws.whole-counted _ loop.c s c.loop-c-test.true found, search rules)

pub loop-c-smaller : goal.loop-c-smaller
loop-c-smaller c =
    let loop = c.loop-c in
    let s = c.args.s.now in
    let found = whole-plain c.args.rules loop.c _ c.requires (rw part-from at c.in-Ok.ensures) in
    rw c.after-c.ensures (on_less s (step-yields _ loop.c s (laws.step-whole _ loop.c s c.loop-c-test.true found)))

pub loop-c-preserved : goal.loop-c-preserved
loop-c-preserved c =
    let loop = c.loop-c in
    let s = c.args.s.now in
    let found = whole-plain c.args.rules loop.c _ c.requires (rw part-from at c.in-Ok.ensures) in
    rw (c.after-c.ensures, c.kind.ensures)
    (kept_next _ verdict s verdict loop.invariant (step-yields _ loop.c s (laws.step-whole _ loop.c s c.loop-c-test.true found)) (λ r. refl))

pub returns-in-Err : goal.returns-in-Err
returns-in-Err c =
    let loop = c.loop-c in
    let s = c.args.s.now in
    c.refused.ensures ∙ kept-end _ verdict s loop.c loop.invariant
    (laws.step-faulty _ loop.c s c.loop-c-test.true (faulty-too c.args.rules loop.c _ (rw part-from at c.in-Err.ensures)))

pub returns : goal.returns
returns c =
    let loop = c.loop-c in
    let s = c.args.s.now in
    c.ended.ensures ∙ kept-end _ verdict s loop.c loop.invariant (laws.step-ended _ loop.c s c.loop-c-test.false)
