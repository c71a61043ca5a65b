-- What 'well formed' means of one message.
-- Assumes nothing.
use Rattle.std.specs.Prelude.{ℕ, ◌≤◌, ◌≡◌, List, length, Some}
use Rattle.mrd_logic.specs.Checks.{first}
use Rattle.mrd_format.specs.declared.kind.Kind.{Kind}
use Rattle.mrd_format.specs.declared.rules.Rules.{Rules}
use Rattle.mrd_format.specs.Kinds.{identified}
use Rattle.mrd_format.specs.Message.{limit, id_at, fixed_part, own_checks, size_of}
use Rattle.mrd_format.specs.Content.{record_of}
use Rattle.mrd_format.specs.Profiles.{texts_in, Encoded}

-- 'A message is well formed when its bytes, taken alone, are one row of the table from id to end with none left over, and pass every check
-- but 12, 13 and 19', by the rules that the caller says. That the size is the length says that the id, the fixed part and the whole message fit: checks
-- 1, 3 and 11. In the strict profile its texts are UTF-8: 21
pub record WellFormed (rules : Rules) (m : List ℕ) : Type 0 where
  pub kind : Kind
  pub known : identified rules (id_at m) ≡ Some kind
  pub sound : first (own_checks kind (fixed_part kind m)) ≡ 0
  pub small : size_of kind (fixed_part kind m) ≤ limit
  pub whole : size_of kind (fixed_part kind m) ≡ length m
  pub encoded : Encoded rules.profile (texts_in (record_of kind m).parts)
