-- What is saved of a stream, and of one that was torn.
-- Assumes nothing.
use Rattle.std.specs.Prelude.{ℕ, ◌+◌, ◌-◌, ◌≤◌, ◌≡◌, ◌⊎◌}
use Rattle.std.proofs.Math.Bool.{true}
use mathlib.Core.List.{List, ◌++◌}
use Rattle.std.proofs.Math.ListN.{length, take}
use Rattle.mrd_logic.specs.Every.{Every}
use Rattle.mrd_logic.specs.Joined.{joined}
use Rattle.mrd_format.specs.declared.rules.Rules.{Rules}
use Rattle.mrd_format.specs.WellFormed.{WellFormed}
use Rattle.mrd_salvage.specs.declared.report.Report.{Report}
use Rattle.mrd_salvage.specs.Salvage.{kept, closing, salvaged, report}
use Rattle.mrd_salvage.specs.Torn.{TornAt}

-- what is saved of s, and that the report's numbers are what they are named for: the messages that are kept are well formed and stand unchanged at the
-- front of s, so many; `rest`, the bytes after them, is not kept; what is written is those messages and then, where it is added, a close; so at most
-- two bytes more than s
pub record SavedOf (rules : Rules) (s : List ℕ) (r : Report) : Type 0 where
  pub well : Every (WellFormed rules) (kept rules s)
  pub rest : List ℕ
  pub front : joined (kept rules s) ++ rest ≡ s
  pub counted : length (kept rules s) ≡ r.messages_kept
  pub lost : length rest ≡ r.bytes_not_kept
  pub written : salvaged rules s ≡ joined (kept rules s) ++ closing r.close_added
  pub long : length (salvaged rules s) ≡ r.length
  pub room : r.length ≤ length s + 2

module _ (rules : Rules) (s : List ℕ) where
  -- the report on a refused stream, by its refusal's record n and byte b: the n messages before the fault, of b bytes, are kept; or they are 1,000,000
  -- without a close, and with the one that is added the last of them is not
  abbrev pub ByRefusal : ℕ → ℕ → Report → Type 0
  ByRefusal n b r =
      ((r.messages_kept ≡ n) × (r.bytes_not_kept ≡ length s - b)) ⊎ ((n ≡ 1000000) × (r.close_added ≡ true) × (r.messages_kept ≡ 999999))

-- a recording with the messages ms, torn at byte b: those that were whole by then are saved, and the part of the next is not
pub record TornSaved (rules : Rules) (s : List ℕ) (ms : List (List ℕ)) (b : ℕ) : Type 0 where
  pub torn : TornAt ms b
  pub saved : salvaged rules (take b s) ≡ joined torn.front ++ closing true
  pub counted : (report rules (take b s)).messages_kept ≡ length torn.front
  pub lost : (report rules (take b s)).bytes_not_kept ≡ length torn.part
