-- What writing the normal form answers, and what the output then holds.
-- Assumes nothing.
use Rattle.std.specs.Prelude.{ℕ, List, length}
use Rattle.mrd_format.specs.declared.rules.Rules.{Rules}
use Rattle.mrd_stream.specs.Normal.{normal}
use Rattle.mrd_logic.specs.Answer.{Answer}
use Rattle.mrd_stream.specs.Output.{answer_for, output_for}

-- the answer for the stream s and an output of so many bytes: the normal form is as long as the stream
abbrev pub normal_answer : Rules → List ℕ → ℕ → Answer ℕ
normal_answer rules s room = answer_for rules s (length s) room

-- the output afterwards, which held o
abbrev pub normal_output : Rules → List ℕ → List ℕ → List ℕ
normal_output rules s o = output_for rules s (length s) (normal rules s) o
