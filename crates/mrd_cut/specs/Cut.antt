-- 'A cut is any division of the whole stream into' well-formed messages; and the order rule, of a list of kinds, in the paper's words.
-- Nothing here speaks of the walk.
-- Assumes nothing.
use Rattle.std.specs.Prelude.{ℕ, ◌≡◌, List, [], ◌∷◌, ◌++◌}
use Rattle.mrd_format.specs.declared.kind.Kind.{Kind}
use Rattle.mrd_format.specs.declared.rules.Rules.{Rules}
use Rattle.mrd_format.specs.declared.kind.Kind.TheVariants.{ConfigurationName, ConfigurationText, HeaderText, Close, Text, Acquisition, Image, Waveform}
use Rattle.mrd_logic.specs.Every.{Every}
use Rattle.mrd_logic.specs.Joined.{joined}
use Rattle.mrd_format.specs.WellFormed.{WellFormed}

-- 'a cut' of s
pub record Cut (rules : Rules) (s : List ℕ) : Type 0 where
  pub pieces : List (List ℕ)
  pub well : Every (WellFormed rules) pieces
  pub whole : joined pieces ≡ s

-- the kinds of well-formed messages
abbrev pub kinds_in : (rules : Rules) (ms : List (List ℕ)) → Every (WellFormed rules) ms → List Kind
kinds_in rules [] w = []
kinds_in rules (m ∷ ms) w = w.0.kind ∷ kinds_in rules ms w.1

-- how a kind counts in 'order of messages': a configuration (id 1 or 2), a header, data (1008, 1022, 1026), a text or a close
pub data Role : Type 0 where
  configuration header measured text close : Role

abbrev pub role_of : Kind → Role
role_of ConfigurationName = configuration
role_of ConfigurationText = configuration
role_of HeaderText = header
role_of Close = close
role_of Text = text
role_of Acquisition = measured
role_of Image = measured
role_of (Waveform l) = measured

-- no message of this role
abbrev pub Lacks : Role → List Kind → Type 0
Lacks r ks = Every (λ (k : Kind). role_of k ≡ r → ⊥) ks

-- 'at most one configuration, before the header and all data'; 'at most one header'; 'data only after it'; 'text may stand anywhere before the
-- close'
abbrev pub May : Role → List Kind → Type 0
May configuration before = Lacks configuration before × Lacks header before × Lacks measured before
May header before = Lacks header before
May measured before = Lacks header before → ⊥
May text before = Unit {0}
May close before = Unit {0}

-- each message stands in order after those before it, none of which is a close
abbrev pub InOrder : List Kind → Type 0
InOrder ks =
    (before : List Kind) (k : Kind) (rest : List Kind) → ks ≡ before ++ (k ∷ rest) → Lacks close before × May (role_of k) before

-- 'the close is last'
abbrev pub EndsInClose : List Kind → Type 0
EndsInClose ks = (before : List Kind) × (ks ≡ before ++ (Close ∷ []))
