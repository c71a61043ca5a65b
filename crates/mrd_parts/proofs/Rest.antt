-- An arm of a `match` on a part that is the rest: what holds of each of its parts holds of the part that comes to it.
-- The arm knows them by their places in the declaration: `OneOf (1 ∷ 2 ∷ []) (tag_of the_type p)`.
-- Assumes nothing.
use Prim.Native.Nat.{ℕ, zero, suc}
use mathlib.Core.Path.{◌≡◌, sym, subst}
use mathlib.Core.List.{List, [], ◌∷◌}
use mathlib.Core.Logic.{inl, inr}
use denote.Enum.Declared.{tag_of}
use types.Run.{OneOf}
use Rattle.mrd_parts.specs.declared.parts.Part.{Part}
use Rattle.mrd_parts.specs.declared.parts.Part.TheVariants.{Name, Text, Attributes, Trajectory, Channel, Pixels, Waveform}
use Rattle.mrd_parts.specs.contracts.parts.Part.{the_type}

-- that P holds of the parts at a place
abbrev pub At : (Part → Type 0) → ℕ → Type 0
At P zero = P Name
At P (suc zero) = P Text
At P (suc (suc zero)) = P Attributes
At P (suc (suc (suc zero))) = P Trajectory
At P (suc (suc (suc (suc zero)))) = (c : ℕ) → P (Channel c)
At P (suc (suc (suc (suc (suc zero))))) = P Pixels
At P (suc (suc (suc (suc (suc (suc n)))))) = P Waveform

abbrev pub Each : (Part → Type 0) → List ℕ → Type 0
Each P [] = Unit {0}
Each P (n ∷ ns) = At P n × Each P ns

one : (P : Part → Type 0) (n : ℕ) (p : Part) → tag_of the_type p ≡ n → At P n → P p
one P n Name e x = subst (At P) (sym e) x
one P n Text e x = subst (At P) (sym e) x
one P n Attributes e x = subst (At P) (sym e) x
one P n Trajectory e x = subst (At P) (sym e) x
one P n (Channel c) e x = subst (At P) (sym e) x c
one P n Pixels e x = subst (At P) (sym e) x
one P n Waveform e x = subst (At P) (sym e) x

pub rest : (P : Part → Type 0) (ns : List ℕ) (p : Part) → OneOf ns (tag_of the_type p) → Each P ns → P p
rest P [] p o xs = absurd o
rest P (n ∷ []) p e xs = one P n p e xs.0
rest P (n ∷ m ∷ ns) p (inl e) xs = one P n p e xs.0
rest P (n ∷ m ∷ ns) p (inr o) xs = rest P (m ∷ ns) p o xs.1
