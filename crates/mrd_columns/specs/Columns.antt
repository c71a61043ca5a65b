-- The columns filled: what that answers, and the places that it writes.
-- Assumes nothing.
use Rattle.std.specs.Prelude.{ℕ, ◌≤◌, ◌||◌, List, ltb, length}
use Rattle.mrd_stream.specs.Walk.{answer}
use Rattle.mrd_stream.specs.Index.{entries}
use Rattle.mrd_logic.specs.Answer.{Answer}
use Rattle.mrd_stream.specs.Output.{answer_by}
use Rattle.mrd_format.specs.declared.rules.Rules.{Rules}

-- 'the stream refusal, then 14 if any column is too short', by the lengths of the three; else the number of records
unfoldable pub columns_answer : Rules → List ℕ → ℕ → ℕ → ℕ → Answer ℕ
columns_answer rules s a b c =
    answer_by (answer rules s) (ltb a (length (entries rules s)) || (ltb b (length (entries rules s)) || ltb c (length (entries rules s)))) (length (entries rules s))

-- three columns of these lengths have n places and more
pub record Rooms (n a b c : ℕ) : Type 0 where
  pub starts : n ≤ a
  pub ids : n ≤ b
  pub counters : n ≤ c
