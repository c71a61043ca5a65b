-- `mrd_index::file::put_entries` meets its contract. The loop's invariant: out holds the entries of the records that were passed from byte 16 on.
-- The measure is the bytes of the stream left.
-- Assumes nothing.
use Prim.Native.Nat.{ℕ, ◌+◌, ◌*◌, ◌≤◌}
use native.Mathlib.Omega.{arith}
use mathlib.Core.List.{List}
use mathlib.Core.Path.{sym, ap, ◌∙◌}
use lib.ListN.{length}
use Rattle.mrd_format.specs.declared.rules.Rules.{Rules}
use Rattle.mrd_cursor.specs.declared.cursor.Cursor.{Cursor}
use Rattle.mrd_numbers.specs.Stored.{stored}
use Rattle.mrd_stream.specs.Index.{Entry, entry_field}
use Rattle.mrd_stream.specs.Places.{Located}
use Rattle.mrd_stream.specs.StepLaws.{Passes, step-yields, on_less}
use Rattle.mrd_index.specs.Entries.{passes-within}
use Rattle.mrd_index.specs.Filling.{Filling, in_file, start, same_size, room, next, finish}
use Rattle.mrd_index.proofs.file.put_entries.Goals as goal

-- the entry of a record that is handed out has room
fits : {rules : Rules} {s o out : List ℕ} {c d : Cursor} {l : Located} → Filling rules in_file s o c out → Passes rules c s l d →
    16 + 17 * l.number + 17 ≤ length out
fits h p = room h p

pub loop-record-init : goal.loop-record-init
loop-record-init c = rw c.beginning-c.ensures (start _ {f = in_file} c.requires)

pub entry_of-requires : goal.entry_of-requires
entry_of-requires c = passes-within (step-yields _ _ _ (sym c.in-Message.ensures))

pub overflow_mul-at : goal.overflow_mul-at
overflow_mul-at c =
    let inv = c.loop-record.invariant in
    omega (arith, fits inv (step-yields _ _ _ (sym c.in-Message.ensures)), same_size inv)

pub overflow_add-at : goal.overflow_add-at
overflow_add-at c =
    let inv = c.loop-record.invariant in
    omega (arith, fits inv (step-yields _ _ _ (sym c.in-Message.ensures)), same_size inv)

pub put_entry-requires : goal.put_entry-requires
put_entry-requires c = fits c.loop-record.invariant (step-yields _ _ _ (sym c.in-Message.ensures))

pub loop-record-smaller : goal.loop-record-smaller
loop-record-smaller c = on_less _ (step-yields _ _ _ (sym c.in-Message.ensures))

pub loop-record-preserved : goal.loop-record-preserved
loop-record-preserved c =
    let at = 16 + 17 * c.in-Message.record.place.number in
    next c.loop-record.invariant (step-yields _ _ _ (sym c.in-Message.ensures))
    (c.put_entry.ensures ∙ ap (λ (e : Entry). stored at (entry_field e) c.loop-record.out) c.entry_of.ensures)

pub returns-in-End : goal.returns-in-End
returns-in-End c = finish c.loop-record.invariant (sym c.in-End.ensures)
