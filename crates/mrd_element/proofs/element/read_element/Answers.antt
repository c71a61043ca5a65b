-- `mrd_element::element::read_element` meets its contract: the letter tells the element's type, so its bytes lie in the fixed part and each arm
-- reads them as that type. Past the five letters no element starts there.
-- Assumes nothing.
use mathlib.Core.Path.{◌≡◌, sym, ap, ◌∙◌}
use borrow.Author.Tests.{ne_eqb}
use mir.Syntax.{w32}
use mir.ValLaws.{to_z-of_z}
use Rattle.mrd_logic.specs.Answer.{answered}
use Rattle.mrd_format.specs.Elements.{u16, u32, u64, i32, f32}
use Rattle.mrd_counter_step.specs.Counters as counters
use Rattle.mrd_element.specs.Element.{none, whole, signed, float}
use Rattle.mrd_element.specs.ElementLaws.{meant, found-by_letter, absent-by_letter}
use borrow.Author.Rules.{rules}
use Rattle.mrd_element.proofs.element.read_element.Goals as goal

pub read-requires : goal.read-requires
read-requires c =
    let a = c.args in (found-by_letter a.fixed.kind a.fixed.bytes.now a.offset u16 a.fixed.long (cc)).inside

pub read-requires-in-73 : goal.read-requires-in-73
read-requires-in-73 c =
    let a = c.args in (found-by_letter a.fixed.kind a.fixed.bytes.now a.offset u32 a.fixed.long (cc)).inside

pub read-requires-in-81 : goal.read-requires-in-81
read-requires-in-81 c =
    let a = c.args in (found-by_letter a.fixed.kind a.fixed.bytes.now a.offset u64 a.fixed.long (cc)).inside

pub read-requires-in-105 : goal.read-requires-in-105
read-requires-in-105 c =
    let a = c.args in (found-by_letter a.fixed.kind a.fixed.bytes.now a.offset i32 a.fixed.long (cc)).inside

pub read-requires-in-102 : goal.read-requires-in-102
read-requires-in-102 c =
    let a = c.args in (found-by_letter a.fixed.kind a.fixed.bytes.now a.offset f32 a.fixed.long (cc)).inside

pub returns-in-72 : goal.returns-in-72
returns-in-72 c =
    let a = c.args in
    let found = found-by_letter a.fixed.kind a.fixed.bytes.now a.offset u16 a.fixed.long (cc) in
    record { says = ap answered (ap whole c.read.ensures) ∙ sym found.value; apart = tt }

pub returns-in-73 : goal.returns-in-73
returns-in-73 c =
    let a = c.args in
    let found = found-by_letter a.fixed.kind a.fixed.bytes.now a.offset u32 a.fixed.long (cc) in
    record { says = ap answered (ap whole c.read-in-73.ensures) ∙ sym found.value; apart = tt }

pub returns-in-81 : goal.returns-in-81
returns-in-81 c =
    let a = c.args in
    let found = found-by_letter a.fixed.kind a.fixed.bytes.now a.offset u64 a.fixed.long (cc) in
    record { says = ap answered (ap whole c.read-in-81.ensures) ∙ sym found.value; apart = tt }

pub returns-in-105 : goal.returns-in-105
returns-in-105 c =
    let a = c.args in
    let found = found-by_letter a.fixed.kind a.fixed.bytes.now a.offset i32 a.fixed.long (cc) in
    let same = to_z-of_z w32 c.as_signed.result (search rules) in
    let read = c.as_signed.ensures ∙ ap counters.signed c.read-in-105.ensures in
    record { says = ap (λ z. answered (signed z)) (same ∙ read) ∙ sym found.value; apart = tt }

pub returns-in-102 : goal.returns-in-102
returns-in-102 c =
    let a = c.args in
    let found = found-by_letter a.fixed.kind a.fixed.bytes.now a.offset f32 a.fixed.long (cc) in
    let says = c.float_of.ensures.says ∙ ap float c.read-in-102.ensures in
    record { says = ap answered says ∙ sym found.value; apart = c.float_of.ensures.apart }

pub returns-in_default : goal.returns-in_default
returns-in_default c =
    let a = c.args in
    let rest = c.in_default.in_default-own.rest in
    let means : meant c.letter.result ≡ none =
    simp (ne_eqb _ _ rest.1, ne_eqb _ _ rest.0.1, ne_eqb _ _ rest.0.0.1, ne_eqb _ _ rest.0.0.0.1, ne_eqb _ _ rest.0.0.0.0.1) in
    let absent = absent-by_letter a.fixed.kind a.fixed.bytes.now a.offset (ap meant (sym c.letter.ensures) ∙ means) in
    record { says = sym absent; apart = tt }
