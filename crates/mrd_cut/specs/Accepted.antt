-- Acceptance without the walk: a cut into at most 1,000,000 messages in order, the last a close.
-- Assumes nothing.
use Rattle.std.specs.Prelude.{ℕ, ◌≤◌, List, length}
use Rattle.mrd_format.specs.declared.kind.Kind.{Kind}
use Rattle.mrd_format.specs.declared.rules.Rules.{Rules}
use Rattle.mrd_cursor.specs.Cursors.{max_messages}
use Rattle.mrd_cut.specs.Cut.{Cut, kinds_in, InOrder, EndsInClose}

-- the kinds of a cut's messages
abbrev pub kinds_of : {rules : Rules} {s : List ℕ} → Cut rules s → List Kind
kinds_of {rules} c = kinds_in rules c.pieces c.well

-- s has a cut into not too many messages, in order, the last a close
pub record Acceptable (rules : Rules) (s : List ℕ) : Type 0 where
  pub cut : Cut rules s
  pub few : length cut.pieces ≤ max_messages
  pub ordered : InOrder (kinds_of cut)
  pub closed : EndsInClose (kinds_of cut)
