-- `mrd_bytes::find` meets its contract: `position` gives std's place, which is the definition's.
-- Assumes nothing.
use Rattle.std.proofs.Common.{eqb, rules, tests}
use Rattle.std.proofs.lemmas.Iterator.{YieldsList-from_slice}
use Rattle.std.proofs.lemmas.Iterator.Search.{position_from_yields_List}
use Rattle.mrd_bytes.proofs.Place.{found}
use Rattle.mrd_bytes.proofs.find.Goals as goal

pub returns : goal.returns
returns c =
    let s = c.args.s.now in
    found c.args.b s
    (position_from_yields_List (λ x. eqb x c.args.b) _ _ _ c.position.ensures.ran (YieldsList-from_slice s cc) (λ x b q k. search (rules, tests)))
    c.unwrap_or.ensures
