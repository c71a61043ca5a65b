-- What the answer of `find` says: the paper's number and values.
-- Assumes nothing.
use Rattle.std.specs.Prelude.{ℕ, Result}
use Rattle.mrd_logic.specs.Answer.{Answer}
use Rattle.mrd_stream.specs.Refused.{told}
use Rattle.mrd_stream.specs.declared.refused.Refused.{Refused}

abbrev pub found_meaning : Result ℕ Refused → Answer ℕ
found_meaning r = told (λ n. n) r
