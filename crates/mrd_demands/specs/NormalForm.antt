-- What the normal form of an accepted stream is.
-- Assumes nothing.
use Rattle.std.specs.Prelude.{ℕ, ◌≡◌, List, length}
use Rattle.mrd_logic.specs.Answer.{accepted}
use Rattle.mrd_stream.specs.Walk.{answer}
use Rattle.mrd_demands.specs.Records.{records}
use Rattle.mrd_stream.specs.Normal.{normal}
use Rattle.mrd_format.specs.declared.rules.Rules.{Rules}

-- the normal form of a stream accepted with the count n
pub record NormalForm (rules : Rules) (s : List ℕ) (n : ℕ) : Type 0 where
  pub accepted-too : answer rules (normal rules s) ≡ accepted n
  pub same_length : length (normal rules s) ≡ length s
  pub same-records : records rules (normal rules s) ≡ records rules s
  pub its_own : normal rules (normal rules s) ≡ normal rules s
