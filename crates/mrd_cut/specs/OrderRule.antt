-- What each phase of the walk means of the kinds so far; that these are the order rule is proved in proofs/OrderRuleLaws.antt.
-- Assumes nothing.
use Rattle.std.specs.Prelude.{◌≡◌, true}
use mathlib.Core.List.{List, [], ◌∷◌}
use Rattle.mrd_format.specs.declared.kind.Kind.{Kind}
use Rattle.mrd_cursor.specs.declared.cursor.Phase.{Phase}
use Rattle.mrd_cursor.specs.declared.cursor.Phase.TheVariants.{Start, Configured, Headed, Closed}
use Rattle.mrd_cursor.specs.Order.{allowed, next_phase}
use Rattle.mrd_cut.specs.Cut.{configuration, header, measured, close, role_of, Lacks, May}

-- the phase that kinds lead to from p
abbrev pub phase_from : Phase → List Kind → Phase
phase_from p [] = p
phase_from p (k ∷ ks) = phase_from (next_phase k p) ks

-- the phase after all messages of these kinds
abbrev pub phase_after : List Kind → Phase
phase_after ks = phase_from Start ks

-- each kind is allowed in the phase where it stands, from p on
abbrev pub AllowedFrom : Phase → List Kind → Type 0
AllowedFrom p [] = Unit {0}
AllowedFrom p (k ∷ ks) = (allowed k p ≡ true) × AllowedFrom (next_phase k p) ks

-- what a phase means: texts at most; a configuration and no header; a header and no close; a close
abbrev pub Means : Phase → List Kind → Type 0
Means Start ks = Lacks close ks × Lacks header ks × Lacks measured ks × Lacks configuration ks
Means Configured ks = Lacks close ks × Lacks header ks × Lacks measured ks × (Lacks configuration ks → ⊥)
Means Headed ks = Lacks close ks × (Lacks header ks → ⊥)
Means Closed ks = Lacks close ks → ⊥

-- k stands in order after the kinds before it
abbrev pub MayFollow : List Kind → Kind → Type 0
MayFollow before k = Lacks close before × May (role_of k) before
