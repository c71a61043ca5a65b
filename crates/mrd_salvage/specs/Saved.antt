-- A stream that is accepted with these messages: what the laws of what is saved speak of.
-- Assumes nothing.
use Rattle.std.specs.Prelude.{ℕ, ◌≡◌, List, [], ◌∷◌}
use Rattle.std.proofs.Math.Bool.{Bool, true}
use Rattle.mrd_logic.specs.Choice.{pick}
use Rattle.mrd_format.specs.declared.rules.Rules.{Rules}
use Rattle.mrd_cut.specs.Accepted.{Acceptable}
use Rattle.mrd_salvage.specs.Salvage.{closing}

-- the message that is added, where one is
abbrev pub added_messages : Bool → List (List ℕ)
added_messages add = pick add (closing true ∷ []) []

-- s is acceptable, with these messages
abbrev pub AcceptableAs : Rules → List ℕ → List (List ℕ) → Type 0
AcceptableAs rules s ms = (a : Acceptable rules s) × (a.cut.pieces ≡ ms)
