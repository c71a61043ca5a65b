-- The answers of what writes as the C structs: `refusal`, `record` and `byte` say what is refused and where, and what an answer lacks is 0.
-- Assumes nothing.
use Rattle.std.specs.Prelude.{ℕ}
use Rattle.mrd_logic.specs.Answer.{Answer, answered, stream, number}
use Rattle.c_written.specs.declared.written.Written.{Written}
use Rattle.c_written.specs.declared.matched.Matched.{Matched}
use Rattle.c_written.specs.declared.put.Put.{Put}

-- what was written to the front of an output
abbrev pub written_as : (refusal r byte length : ℕ) → Written
written_as f r b n = record { refusal = f; «record» = r; byte = b; length = n }

abbrev pub c_written : Answer ℕ → Written
c_written (answered n) = written_as 0 0 0 n
c_written (stream f r b) = written_as f r b 0
c_written (number n) = written_as n 0 0 0

-- a given index compared
abbrev pub matched_as : (refusal r byte : ℕ) → Matched
matched_as f r b = record { refusal = f; «record» = r; byte = b }

abbrev pub c_matched : Answer (Unit {0}) → Matched
c_matched (answered x) = matched_as 0 0 0
c_matched (stream f r b) = matched_as f r b
c_matched (number n) = matched_as n 0 0

-- the writer's answer
abbrev pub put_as : (refusal position : ℕ) → Put
put_as f p = record { refusal = f; position = p }

abbrev pub c_put : Answer ℕ → Put
c_put (answered p) = put_as 0 p
c_put (stream f r b) = put_as f 0
c_put (number n) = put_as n 0
