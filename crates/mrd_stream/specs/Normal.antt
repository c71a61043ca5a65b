-- 'The normal form of an accepted stream'.
-- Assumes nothing.
use Rattle.std.specs.Prelude.{ℕ, List, [], ◌++◌}
use Rattle.mrd_format.specs.Content.{normal_of}
use Rattle.mrd_stream.specs.Walk.{Trace, message, done, trace}
use Rattle.mrd_format.specs.declared.rules.Rules.{Rules}

abbrev pub normal_from : Trace → List ℕ
normal_from (message c k m r) = normal_of k m ++ normal_from r
normal_from (done v) = []

-- each message in normal form, in order
unfoldable pub normal : Rules → List ℕ → List ℕ
normal rules s = normal_from (trace rules s)
