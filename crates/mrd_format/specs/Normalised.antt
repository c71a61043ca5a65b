-- What holds of the normal form of one well-formed message.
-- Assumes nothing.
use Prim.Native.Nat.{ℕ, ◌-◌}
use Rattle.std.specs.Prelude.{◌≡◌, List, ◌++◌, length, take, replicate}
use Rattle.mrd_format.specs.declared.kind.Kind.{Kind}
use Rattle.mrd_format.specs.declared.kind.Kind.TheVariants.{ConfigurationName}
use Rattle.mrd_logic.specs.Checks.{first}
use Rattle.mrd_format.specs.Message.{id_at, fixed_part, name_length, own_checks, size_of}
use Rattle.mrd_format.specs.Content.{record_of, normal_of}

-- a name's 1,024 bytes with those after the first zero made zero
abbrev pub filled : List ℕ → List ℕ
filled h = take (name_length h) h ++ replicate (1024 - name_length h) 0

-- what holds of a message's normal form
pub record Normalised (k : Kind) (m : List ℕ) : Type 0 where
  pub long : length (normal_of k m) ≡ length m
  pub id : id_at (normal_of k m) ≡ id_at m
  pub sound : first (own_checks k (fixed_part k (normal_of k m))) ≡ 0
  pub size : size_of k (fixed_part k (normal_of k m)) ≡ size_of k (fixed_part k m)
  pub same : record_of k (normal_of k m) ≡ record_of k m
  pub own : normal_of k (normal_of k m) ≡ normal_of k m

-- a configuration name's 1,024 bytes
abbrev pub name_bytes : List ℕ → List ℕ
name_bytes m = fixed_part ConfigurationName m
