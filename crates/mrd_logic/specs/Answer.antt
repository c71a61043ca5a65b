-- What is answered about a stream: of the stream itself, and of each question about it. One shape for every question.
-- Assumes nothing.
use Rattle.std.specs.Prelude.{ℕ}

-- the stream's answer: 'accepted', with its record count, or a stream refusal's 'number, record number from 0 and the byte where the faulty
-- message starts'
pub data Verdict : Type 0 where
  accepted : ℕ → Verdict
  refused : ℕ → ℕ → ℕ → Verdict

-- a question's answer; the stream's refusal, with number, record and byte; or another refusal, 'the number alone'
pub data Answer (A : Type 0) : Type 0 where
  answered : A → Answer A
  stream : ℕ → ℕ → ℕ → Answer A
  number : ℕ → Answer A

-- 'questions about a stream give its stream refusal first'
abbrev pub unless_refused : {A : Type 0} → Verdict → Answer A → Answer A
unless_refused (accepted n) a = a
unless_refused (refused f r b) a = stream f r b

-- a question about what another question answered: its refusals stay
abbrev pub and_then : {A B : Type 0} → Answer A → (A → Answer B) → Answer B
and_then (answered a) f = f a
and_then (stream n r b) f = stream n r b
and_then (number n) f = number n
