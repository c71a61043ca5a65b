-- What writing the index answers, and what the output then holds.
-- Assumes nothing.
use Rattle.std.specs.Prelude.{ℕ, List, length}
use Rattle.mrd_stream.specs.Index.{index}
use Rattle.mrd_logic.specs.Answer.{Answer}
use Rattle.mrd_stream.specs.Output.{answer_for, output_for}
use Rattle.mrd_format.specs.declared.rules.Rules.{Rules}

-- the answer for the stream s and an output of so many bytes
abbrev pub index_answer : Rules → List ℕ → ℕ → Answer ℕ
index_answer rules s room = answer_for rules s (length (index rules s)) room

-- the output afterwards, which held o
abbrev pub index_output : Rules → List ℕ → List ℕ → List ℕ
index_output rules s o = output_for rules s (length (index rules s)) (index rules s) o
