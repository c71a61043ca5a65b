-- What each way through the code answers and leaves in the output.
-- Assumes nothing.
use Rattle.std.specs.Prelude.{ℕ, ◌≤◌, ◌≡◌, List, ◌++◌, length, drop}
use Rattle.std.proofs.Common.{◌∙◌}
use Rattle.mrd_logic.specs.Answer.{accepted, answered}
use Rattle.mrd_format.specs.declared.rules.Rules.{Rules}
use Rattle.mrd_stream.specs.Walk.{answer}
use Rattle.mrd_stream.specs.Normal.{normal}
use Rattle.mrd_stream.specs.Output.{Answered, output-fits}

-- an accepted stream, and an output long enough, to whose front the normal form was put
pub all-written : (rules : Rules) (s o : List ℕ) {n : ℕ} → answer rules s ≡ accepted n → length s ≤ length o → {out : List ℕ} →
    out ≡ normal rules s ++ drop (length s) o → Answered rules s (length s) (normal rules s) o (answered (length s)) out
all-written rules s o e h p = let right = output-fits rules s (length s) (normal rules s) o e h in (right.0, p ∙ right.1)
