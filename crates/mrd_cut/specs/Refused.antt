-- Refusal without the walk: the first faulty message, and the first check that refuses it; what stands before is well formed and in order.
-- Assumes nothing.
use Rattle.std.specs.Prelude.{ℕ, ◌≤◌, ◌≡◌, length}
use mathlib.Core.List.{List, [], ◌∷◌, ◌++◌}
use Rattle.mrd_format.specs.declared.kind.Kind.{Kind}
use Rattle.mrd_format.specs.declared.rules.Rules.{Rules}
use Rattle.mrd_format.specs.Kinds.{identified}
use Rattle.mrd_format.specs.Message.{id_at}
use Rattle.mrd_format.specs.WellFormed.{WellFormed}
use Rattle.mrd_cursor.specs.declared.cursor.Cursor.{Cursor}
use Rattle.mrd_cursor.specs.Cursors.{max_messages}
use Rattle.mrd_judge.specs.Stages.{checks_as}
use Rattle.mrd_logic.specs.Every.{Every}
use Rattle.mrd_logic.specs.Checks.{FirstFault}
use Rattle.mrd_logic.specs.Joined.{joined}
use Rattle.mrd_cut.specs.Cut.{kinds_in, close, Lacks, InOrder}
use Rattle.mrd_cut.specs.Walked.{cursor_after}

-- the fault f where the walk stands at c, after messages of the kinds ks, with t left: 'the stream ends without a close', or the first check
-- that refuses the message at the front of t
abbrev pub FaultAt : Rules → ℕ → Cursor → List Kind → List ℕ → Type 0
FaultAt rules f c ks [] = (f ≡ 13) × Lacks close ks
FaultAt rules f c ks (b ∷ t) = FirstFault f (checks_as rules.profile (identified rules (id_at (b ∷ t))) c (b ∷ t))

-- after n well-formed messages of s in order, and b bytes, comes the fault f
pub record RefusedAt (rules : Rules) (s : List ℕ) (f n b : ℕ) : Type 0 where
  pub pieces : List (List ℕ)
  pub well : Every (WellFormed rules) pieces
  pub rest : List ℕ
  pub whole : joined pieces ++ rest ≡ s
  pub number : length pieces ≡ n
  pub byte : length (joined pieces) ≡ b
  pub few : length pieces ≤ max_messages
  pub ordered : InOrder (kinds_in rules pieces well)
  pub fault : FaultAt rules f (cursor_after rules pieces well) (kinds_in rules pieces well) rest
