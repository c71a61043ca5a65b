-- An arm of a `match` on a kind that names several kinds, or is the rest: what holds of each of them holds of the kind that comes to it.
-- An arm knows them by their places in the declaration: `OneOf (5 ∷ 7 ∷ []) (tag_of the_type k)`.
-- Assumes nothing.
use Prim.Native.Nat.{ℕ, zero, suc}
use mathlib.Core.Path.{◌≡◌, refl, sym, ap, subst, ◌∙◌}
use mathlib.Core.List.{List, [], ◌∷◌, map}
use mathlib.Core.Logic.{inl, inr}
use denote.Enum.Declared.{tag_of}
use types.Run.{OneOf}
use Rattle.mrd_format.specs.declared.rules.Layout.{Layout}
use Rattle.mrd_format.specs.declared.rules.Layout.TheVariants.{Packed}
use Rattle.mrd_format.specs.declared.rules.Profile.TheVariants.{Plain}
use Rattle.mrd_format.specs.declared.kind.Kind.{Kind}
use Rattle.mrd_format.specs.declared.kind.Kind.TheVariants.{ConfigurationName, ConfigurationText, HeaderText, Close, Text, Acquisition, Image, Waveform}
use Rattle.mrd_format.specs.Kinds.{kinds}
use Rattle.mrd_format.specs.contracts.kind.Kind.{the_type}

abbrev pub nth : List Kind → ℕ → Kind
nth [] n = Close
nth (k ∷ ks) zero = k
nth (k ∷ ks) (suc n) = nth ks n

-- the kind at a place of the declaration, a waveform's with this layout
abbrev pub kind_at : Layout → ℕ → Kind
kind_at l n = nth (kinds (record { layout = l; profile = Plain })) n

-- the layout of a waveform, and some layout for any other kind
abbrev pub layout_of : Kind → Layout
layout_of ConfigurationName = Packed
layout_of ConfigurationText = Packed
layout_of HeaderText = Packed
layout_of Close = Packed
layout_of Text = Packed
layout_of Acquisition = Packed
layout_of Image = Packed
layout_of (Waveform l) = l

kind_of-tag : (k : Kind) → kind_at (layout_of k) (tag_of the_type k) ≡ k
kind_of-tag ConfigurationName = refl
kind_of-tag ConfigurationText = refl
kind_of-tag HeaderText = refl
kind_of-tag Close = refl
kind_of-tag Text = refl
kind_of-tag Acquisition = refl
kind_of-tag Image = refl
kind_of-tag (Waveform l) = refl

abbrev pub Each : Layout → (Kind → Type 0) → List ℕ → Type 0
Each l P [] = Unit {0}
Each l P (n ∷ ns) = P (kind_at l n) × Each l P ns

-- what holds of each kind of an arm
pub arm : (P : Kind → Type 0) (ns : List ℕ) (k : Kind) → OneOf ns (tag_of the_type k) → Each (layout_of k) P ns → P k
arm P [] k o ps = absurd o
arm P (n ∷ []) k e ps = subst P (sym (ap (kind_at (layout_of k)) e) ∙ kind_of-tag k) ps.0
arm P (n ∷ m ∷ ns) k (inl e) ps = subst P (sym (ap (kind_at (layout_of k)) e) ∙ kind_of-tag k) ps.0
arm P (n ∷ m ∷ ns) k (inr o) ps = arm P (m ∷ ns) k o ps.1

-- what is the same for every kind of an arm: `refl` shows it
pub arm_same :
    {A : Type 0} (f : Kind → A) (a : A) (ns : List ℕ) (k : Kind) → OneOf ns (tag_of the_type k) →
    map (λ (n : ℕ). f (kind_at (layout_of k) n)) ns ≡ map (λ (n : ℕ). a) ns → f k ≡ a
arm_same f a ns k o e = arm (λ (j : Kind). f j ≡ a) ns k o (each (layout_of k) ns e)
  where
    each : (l : Layout) (ns : List ℕ) → map (λ (n : ℕ). f (kind_at l n)) ns ≡ map (λ (n : ℕ). a) ns → Each l (λ (j : Kind). f j ≡ a) ns
    each l [] e = tt
    each l (n ∷ ns) e = (cc, each l ns (cc))
