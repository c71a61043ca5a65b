-- What there is where nothing is refused: an accepted stream, an answer, a record that a step yields or the end of an accepted stream.
-- Assumes nothing.
use Rattle.std.specs.Prelude.{ℕ, ◌≡◌, Bool, true, false}
use Rattle.mrd_logic.specs.Answer.{Verdict, accepted, Answer, answered}
use Rattle.mrd_cursor.specs.declared.cursor.Cursor.{Cursor}
use Rattle.mrd_stream.specs.Places.{Located, Stepped, yields, over}

abbrev pub IsAccepted : Verdict → Type 0
IsAccepted v = (n : ℕ) × (v ≡ accepted n)

abbrev pub IsAnswered : {A : Type 0} → Answer A → Type 0
IsAnswered {A} a = (x : A) × (a ≡ answered x)

-- by whether the step says that the walk ended
abbrev pub StepSays : Bool → Stepped → Type 0
StepSays true x = (n : ℕ) × (x ≡ over (accepted n))
StepSays false x = (l : Located) × ((d : Cursor) × (x ≡ yields l d))
