-- `mrd_writer::writer::store` meets its contract: checks 21 and 14, and the id and the content put into the parts from their places on.
-- Assumes nothing.
use Prim.Native.Nat.{◌+◌}
use native.Mathlib.Omega.{arith}
use mathlib.Core.Path.{sym}
use Rattle.mrd_numbers.specs.Stored.{returned, length_part}
use Rattle.mrd_writer.specs.WriteLaws.{not-encoded, no_room, within, room}
use Rattle.mrd_writer.proofs.writer.store.Goals as goal

pub returns-then-not-encoded : goal.returns-then-not-encoded
returns-then-not-encoded c = not-encoded _ _ _ _ _ c.requires (sym c.if-not-encoded.ensures)

pub returns-then-out-position : goal.returns-then-out-position
returns-then-out-position c = no_room _ _ _ _ _ c.requires (sym c.if-not-encoded.ensures) (omega arith)

pub returns-then-out-position-2 : goal.returns-then-out-position-2
returns-then-out-position-2 c = no_room _ _ _ _ _ c.requires (sym c.if-not-encoded.ensures) (omega arith)

pub put-requires : goal.put-requires
put-requires c =
    omega (
      arith,
      length_part c.args.position c.args.out.now,
      (within c.args.profile _ _ c.args.position c.args.out.now c.requires (omega arith)).1,
    )

pub put_content-requires : goal.put_content-requires
put_content-requires c =
    let w = within c.args.profile _ _ c.args.position c.args.out.now c.requires (omega arith) in (
      w.0,
      omega (
        arith,
        length_part (c.args.position + 2)
            (returned c.args.position c.args.out.now c.put.new.out),
        w.1,
      ),
    )

pub returns : goal.returns
returns c =
    room _ _ _ _ _ c.requires (sym c.if-not-encoded.ensures) (omega arith) _ _ _ c.id.ensures c.put.ensures c.put_content.ensures
