-- The table of kinds read back: the id of a message is its kind's, and a waveform's layout is the one that the rules say.
-- Assumes nothing.
use Rattle.std.specs.Prelude.{ℕ, ◌≡◌, refl, Bool, true, false, List, [], ◌∷◌, eqb, Some, None}
use Rattle.std.proofs.Common.{arith, ap, subst, ◌∙◌, eqb-true}
use Rattle.mrd_format.specs.declared.kind.Kind.{Kind}
use Rattle.mrd_format.specs.declared.kind.Kind.TheVariants.{ConfigurationName, ConfigurationText, HeaderText, Close, Text, Acquisition, Image, Waveform}
use Rattle.mrd_format.specs.declared.rules.Layout.{Layout}
use Rattle.mrd_format.specs.declared.rules.Rules.{Rules}
use Rattle.mrd_logic.specs.Choice.{pick}
use Rattle.mrd_logic.specs.Every.{Every}
use Rattle.mrd_format.specs.Kinds.{id_of, kinds, lookup, identified}

known-not_unknown : {k : Kind} → None ≡ Some k → ⊥
known-not_unknown e = let z : ◌≡◌ {A = ℕ} 0 1 = cc in omega arith

-- what holds of every row of a table holds of the row that is found, and its id is the one that was looked up
lookup_row : (P : Kind → Type 0) (ks : List Kind) → Every P ks → (id : ℕ) {k : Kind} → lookup ks id ≡ Some k → P k × (id ≡ id_of k)
lookup_row P [] all id e = absurd (known-not_unknown e)
lookup_row P (j ∷ ks) all id {k} e = here (eqb id (id_of j)) refl e (lookup_row P ks all.1 id)
  where
    here :
        (b : Bool) → eqb id (id_of j) ≡ b → pick b (Some j) (lookup ks id) ≡ Some k →
        (lookup ks id ≡ Some k → P k × (id ≡ id_of k)) → P k × (id ≡ id_of k)
    here true t e later = let same : j ≡ k = cc in (subst P same all.0, eqb-true id (id_of j) t ∙ ap id_of same)
    here false t e later = later e

-- a kind goes by a layout where, if a waveform's, it has that layout
abbrev pub GoesBy : Layout → Kind → Type 0
GoesBy l ConfigurationName = Unit {0}
GoesBy l ConfigurationText = Unit {0}
GoesBy l HeaderText = Unit {0}
GoesBy l Close = Unit {0}
GoesBy l Text = Unit {0}
GoesBy l Acquisition = Unit {0}
GoesBy l Image = Unit {0}
GoesBy l (Waveform k) = k ≡ l

pub known_row : (rules : Rules) (id : ℕ) {k : Kind} → identified rules id ≡ Some k → GoesBy rules.layout k × (id ≡ id_of k)
unfolding identified
known_row rules id e = lookup_row (GoesBy rules.layout) (kinds rules) (tt, (tt, (tt, (tt, (tt, (tt, (tt, (refl, tt)))))))) id e

-- an id that the table gives a kind is that kind's
pub known-id : (rules : Rules) (id : ℕ) {k : Kind} → identified rules id ≡ Some k → id ≡ id_of k
known-id rules id e = (known_row rules id e).1

-- 'The caller says which layout the whole stream uses'
pub known-layout : (rules : Rules) (id : ℕ) {l : Layout} → identified rules id ≡ Some (Waveform l) → l ≡ rules.layout
known-layout rules id e = (known_row rules id e).0
