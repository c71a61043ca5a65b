use borrow.Author.Tests.{ne_eqb}
use Rattle.mrd_format.specs.Kinds.{identified}
use Rattle.mrd_format.proofs.kind.Kind.of_id.Goals as goal

pub returns-in-1 : goal.returns-in-1
unfolding identified
returns-in-1 c = rw c.in-1.is

pub returns-in-2 : goal.returns-in-2
unfolding identified
returns-in-2 c = rw c.in-2.is

pub returns-in-3 : goal.returns-in-3
unfolding identified
returns-in-3 c = rw c.in-3.is

pub returns-in-4 : goal.returns-in-4
unfolding identified
returns-in-4 c = rw c.in-4.is

pub returns-in-5 : goal.returns-in-5
unfolding identified
returns-in-5 c = rw c.in-5.is

pub returns-in-1008 : goal.returns-in-1008
unfolding identified
returns-in-1008 c = rw c.in-1008.is

pub returns-in-1022 : goal.returns-in-1022
unfolding identified
returns-in-1022 c = rw c.in-1022.is

pub returns-in-1026 : goal.returns-in-1026
unfolding identified
returns-in-1026 c = rw c.in-1026.is

pub returns-in_default : goal.returns-in_default
unfolding identified
returns-in_default c =
    simp (
      ne_eqb _ _ c.in_default.in_default-own.rest.1,
      ne_eqb _ _ c.in_default.in_default-own.rest.0.1,
      ne_eqb _ _ c.in_default.in_default-own.rest.0.0.1,
      ne_eqb _ _ c.in_default.in_default-own.rest.0.0.0.1,
      ne_eqb _ _ c.in_default.in_default-own.rest.0.0.0.0.1,
      ne_eqb _ _ c.in_default.in_default-own.rest.0.0.0.0.0.1,
      ne_eqb _ _ c.in_default.in_default-own.rest.0.0.0.0.0.0.1,
      ne_eqb _ _ c.in_default.in_default-own.rest.0.0.0.0.0.0.0.1,
    )
