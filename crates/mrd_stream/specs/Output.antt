-- What a tool that writes to the front of an output answers, and what the output then holds: 'stream refusal, then 14'; 'no refusal writes any
-- byte'; 'it fills the front of the output; the rest keeps its content'.
-- Assumes nothing.
use Rattle.std.specs.Prelude.{Result, ℕ, ◌≤◌, ◌<◌, ◌≡◌, Bool, List, ◌++◌, ltb, length, drop}
use Rattle.std.proofs.Common.{sym}
use Rattle.std.proofs.Math.Path.{ap}
use borrow.Author.Tests.{lt-ltb, le-ltb}
use Rattle.mrd_stream.specs.declared.refused.Refused.{Refused}
use Rattle.mrd_stream.specs.Refused.{told}
use Rattle.mrd_logic.specs.Answer.{Verdict, accepted, refused, Answer, answered, stream, number, unless_refused}
use Rattle.mrd_logic.specs.Choice.{pick}
use Rattle.mrd_stream.specs.Walk.{answer}
use Rattle.mrd_format.specs.declared.rules.Rules.{Rules}

-- what is answered: how many are written, or why none is
abbrev pub written_meaning : Result ℕ Refused → Answer ℕ
written_meaning q = told (λ n. n) q

-- by the stream's answer and whether the output is too short for the n that are to be written
abbrev pub answer_by : Verdict → Bool → ℕ → Answer ℕ
answer_by v short n = unless_refused v (pick short (number 14) (answered n))

-- the answer for the stream s, of which n are to be written, and an output with so much room
unfoldable pub answer_for : Rules → List ℕ → ℕ → ℕ → Answer ℕ
answer_for rules s n room = answer_by (answer rules s) (ltb room n) n

-- the output afterwards, which held o, by the answer: where the tool wrote, w stands at its front
abbrev pub output_by : Answer ℕ → List ℕ → List ℕ → List ℕ
output_by (answered n) w o = w ++ drop n o
output_by (stream f r b) w o = o
output_by (number n) w o = o

unfoldable pub output_for : Rules → List ℕ → ℕ → List ℕ → List ℕ → List ℕ
output_for rules s n w o = output_by (answer_for rules s n (length o)) w o

-- a call that answers a and leaves out, for the stream s, of which w, n long, is to be written to the output o
abbrev pub Answered : Rules → List ℕ → ℕ → List ℕ → List ℕ → Answer ℕ → List ℕ → Type 0
Answered rules s n w o a out = (a ≡ answer_for rules s n (length o)) × (out ≡ output_for rules s n w o)

module _ (rules : Rules) (s : List ℕ) (n : ℕ) (w o : List ℕ) where
  -- the output follows from the answer
  by_answer : {a : Answer ℕ} → answer_for rules s n (length o) ≡ a → Answered rules s n w o a (output_by a w o)
  unfolding output_for
  by_answer e = (sym e, ap (λ (a : Answer ℕ). output_by a w o) (sym e))

  -- a refused stream
  pub stream-refused : {f r b : ℕ} → answer rules s ≡ refused f r b → Answered rules s n w o (stream f r b) o
  unfolding answer_for
  stream-refused {f} {r} {b} e = by_answer {a = stream f r b} (rw e)

  -- an accepted stream, and an output too short or long enough
  pub output-short : {k : ℕ} → answer rules s ≡ accepted k → length o < n → Answered rules s n w o (number 14) o
  unfolding answer_for
  output-short e h = by_answer {a = number 14} (simp (e, lt-ltb _ _ h))

  pub output-fits : {k : ℕ} → answer rules s ≡ accepted k → n ≤ length o → Answered rules s n w o (answered n) (w ++ drop n o)
  unfolding answer_for
  output-fits e h = by_answer {a = answered n} (simp (e, le-ltb _ _ h))
