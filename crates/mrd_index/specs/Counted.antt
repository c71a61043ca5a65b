-- An accepted stream's count is the number of its entries, and at most 1,000,000.
-- Assumes nothing.
use Rattle.std.specs.Prelude.{ℕ, suc, ◌≤◌, ◌≡◌, refl, List}
use Rattle.std.proofs.Common.{sym, ◌∙◌}
use Rattle.std.proofs.Math.Path.{ap}
use Rattle.std.proofs.Math.ListN.{length}
use Rattle.mrd_cursor.specs.Cursors.{max_messages}
use Rattle.mrd_stream.specs.Walk.{Trace, message, done, trace, answer}
use Rattle.mrd_logic.specs.Answer.{accepted}
use Rattle.mrd_stream.specs.Index.{entries_of, entries}
use Rattle.mrd_cut.specs.Walked.{pieces_of}
use Rattle.mrd_cut.proofs.AcceptedLaws.{accepted-cut}
use Rattle.mrd_format.specs.declared.rules.Rules.{Rules}

one_each : (r : Trace) → length (entries_of r) ≡ length (pieces_of r)
one_each (message c k m r) = ap suc (one_each r)
one_each (done v) = refl

module _ (rules : Rules) (s : List ℕ) {n : ℕ} (e : answer rules s ≡ accepted n) where
  pub entries-count : length (entries rules s) ≡ n
  unfolding entries
  entries-count = let a = accepted-cut rules s e in one_each (trace rules s) ∙ ap length (sym a.1) ∙ a.2

  pub few : n ≤ max_messages
  few = let a = accepted-cut rules s e in rw (← a.2) a.0.few
