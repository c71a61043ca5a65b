-- Two streams of one meaning.
-- Assumes nothing.
use Rattle.std.specs.Prelude.{ℕ, ◌≡◌, List}
use Rattle.mrd_logic.specs.Answer.{accepted}
use Rattle.mrd_format.specs.declared.rules.Rules.{Rules}
use Rattle.mrd_stream.specs.Walk.{answer}
use Rattle.mrd_stream.specs.Normal.{normal}
use Rattle.mrd_demands.specs.Records.{records}

-- t is accepted as s is, with the same records and the same normal form
pub record SameMeaning (rules : Rules) (s t : List ℕ) (n : ℕ) : Type 0 where
  pub accepted-too : answer rules t ≡ accepted n
  pub same-records : records rules t ≡ records rules s
  pub same-normal : normal rules t ≡ normal rules s
