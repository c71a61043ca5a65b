-- `mrd_utf8::character` meets its contract: the first octet says how many are due, and each of them was tested.
-- Assumes nothing.
use Rattle.std.proofs.Common.{sym}
use Rattle.mrd_utf8.specs.Whole.{whole_1, whole_2, whole_3, whole_4}
use Rattle.mrd_utf8.proofs.character.Goals as goal

pub returns-in-0 : goal.returns-in-0
returns-in-0 c = whole_1 _ _ _ _ c.begun-first.ensures _ c.in-0.is

pub returns-in-1 : goal.returns-in-1
returns-in-1 c = whole_2 _ _ _ _ c.begun-first.ensures _ (sym c.if-takes.ensures) _ c.in-1.is

pub returns-in-2 : goal.returns-in-2
returns-in-2 c = whole_3 _ _ _ _ c.begun-first.ensures _ (sym c.if-takes-2.ensures) _ _ c.in-2.is (sym c.if-is_tail.ensures)

pub returns-in-3 : goal.returns-in-3
returns-in-3 c =
    whole_4 _ _ _ _ c.begun-first.ensures _ (sym c.if-takes-3.ensures) _ _ _ c.in-3.is
    (sym c.if-is_tail-2.ensures) (sym c.if-is_tail-3.ensures)
