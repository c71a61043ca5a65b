-- The steps of a cursor: from the beginning on they hand out the stream's messages in order, and then its answer.
-- Assumes nothing.
use Rattle.std.specs.Prelude.{ℕ, ◌+◌, ◌<◌, ◌≡◌, refl, true, List, [], ◌∷◌, ◌++◌, length}
use Rattle.std.proofs.Common.{◌∙◌, append_assoc, length-append, drop_at}
use Rattle.std.proofs.Math.Seq.{take-append_seam}
use Rattle.mrd_format.specs.WellFormed.{WellFormed}
use Rattle.mrd_cursor.specs.declared.cursor.Cursor.{Cursor}
use Rattle.mrd_cursor.specs.Order.{allowed}
use Rattle.mrd_cursor.specs.Cursors.{max_messages, after, beginning}
use Rattle.mrd_stream.specs.Walk.{Trace, trace}
use Rattle.mrd_stream.specs.Places.{located, yields, step_at, step}
use Rattle.mrd_cut.specs.Unique.{not-empty}
use Rattle.mrd_judge.specs.WholeLaws.{well-judge}
use Rattle.mrd_cut.specs.Walked.{Walks}
use Rattle.mrd_cut.specs.Walked.{ends, faults, meets}
use Rattle.mrd_cut.proofs.WalkedLaws.{walks}
use Rattle.mrd_format.specs.declared.rules.Rules.{Rules}
use Rattle.mrd_cut.specs.Steps.{Yields}

-- the step from a cursor that stands after the bytes `before`
step_after : (rules : Rules) (c : Cursor) (before t : List ℕ) → length before ≡ c.start → step rules c (before ++ t) ≡ step_at rules c t
unfolding step
step_after rules c before t h = rw (drop_at before t c.start h)

-- the step at a well-formed message that the order and the count allow
pub step-well : {rules : Rules} (c : Cursor) (m rest : List ℕ) (w : WellFormed rules m) → allowed w.kind c.phase ≡ true → c.number < max_messages →
    step_at rules c (m ++ rest) ≡ yields (located c w.kind m) (after c w.kind (length m))
unfolding step_at
step-well c [] rest w a n = absurd (not-empty [] [] w refl)
step-well c (b ∷ m) rest w a n = rw (well-judge c (b ∷ m) rest w a n, take-append_seam m rest)

-- the steps of a walk that has passed the bytes `before`
steps-from : {rules : Rules} {c : Cursor} {s : List ℕ} {r : Trace} → Walks rules c s r → (before : List ℕ) → length before ≡ c.start → Yields rules (before ++ s) c r
unfolding step_at
steps-from {rules} (ends {c}) before h = step_after rules c before [] h
steps-from {rules} (faults {c} {b} {t} e) before h = rw (step_after rules c before (b ∷ t) h, e)
steps-from {rules} (meets {c} {m} {rest} w a n v) before h =
    let far : length (before ++ m) ≡ c.start + length m = simp (length-append, h) in
    let here = step_after rules c before (m ++ rest) h ∙ step-well c m rest w a n in
    (refl, (after c w.kind (length m), here, rw append_assoc at (steps-from v (before ++ m) far)))

-- the steps from the beginning hand out the messages of the stream's trace in order, and then its answer
pub steps_follow : (rules : Rules) (s : List ℕ) → Yields rules s beginning (trace rules s)
steps_follow rules s = steps-from (walks rules s) [] refl
