-- What a given index has to do with the answer: 'an index is believed exactly when it equals the one the stream itself yields'.
-- Assumes nothing.
use Rattle.std.specs.Prelude.{ℕ, ◌≡◌, ◌↔◌, List}
use Rattle.mrd_logic.specs.Answer.{accepted, refused, Answer, stream, number}
use Rattle.mrd_stream.specs.Walk.{answer}
use Rattle.mrd_index_match.specs.Exactly.{Accepted}
use Rattle.mrd_ask.specs.Replies.{Replied}
use Rattle.mrd_format.specs.declared.rules.Rules.{Rules}

-- b is answered about s with an index given, of which `own` says that it is the one that s yields, and a with none: with its own the answer is that
-- with none, and where s is accepted it is that exactly with its own; it is 15 exactly when s is accepted and the index is another; a refused
-- stream's refusal comes first
pub record Believed (rules : Rules) (s : List ℕ) (own : Type 0) (a b : Answer Replied) : Type 0 where
  pub own-answered : own → b ≡ a
  pub own-believed : {n : ℕ} → answer rules s ≡ accepted n → (b ≡ a) ↔ own
  pub other-15 : (b ≡ number 15) ↔ Accepted rules s (own → ⊥)
  pub stream-first : {f r i : ℕ} → answer rules s ≡ refused f r i → b ≡ stream f r i
