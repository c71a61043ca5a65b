-- The entry of a record, by its place in the stream; and that a walk meets the index's entries in order.
-- Assumes nothing.
use Rattle.std.specs.Prelude.{ℕ, ◌+◌, ◌≤◌, ◌≡◌, List, ◌∷◌, length, drop}
use Rattle.std.proofs.Common.{arith, sym, ap, length-append, length-drop}
use Rattle.mrd_format.specs.Kinds.{fixed_size}
use Rattle.mrd_format.specs.Message.{fixed_part}
use Rattle.mrd_format.specs.MessageLaws.{well-least, well-fixed}
use Rattle.mrd_cursor.specs.declared.cursor.Cursor.{Cursor}
use Rattle.mrd_stream.specs.Walk.{Trace, message}
use Rattle.mrd_stream.specs.Index.{Entry, entry_of, entries_of}
use Rattle.mrd_stream.specs.Places.{Located}
use Rattle.mrd_stream.specs.StepLaws.{Passes}
use Rattle.mrd_format.specs.declared.rules.Rules.{Rules}

-- the entry of the record that lies at l in s
abbrev pub entry_at : List ℕ → Located → Entry
entry_at s l = entry_of l.start l.kind (drop l.start s)

-- the id and the fixed part of the record at l lie in s
abbrev pub WithinStream : List ℕ → Located → Type 0
WithinStream s l = l.start + (2 + fixed_size l.kind) ≤ length s

-- a message that a step passes
module _ {rules : Rules} {c d : Cursor} {s : List ℕ} {l : Located} (p : Passes rules c s l d) where
  here : l.start ≡ c.start
  here = ap (λ (l : Located). l.start) p.place

  kind : l.kind ≡ p.kind
  kind = ap (λ (l : Located). l.kind) p.place

  least : 2 + fixed_size p.kind ≤ length p.bytes
  least = rw (← p.known) (well-least p.bytes p.well)

  pub passes-within : WithinStream s l
  passes-within =
      let size = simp (length-append, length-drop) at (ap length p.split) in
      rw (here, kind) (omega (arith, size, least, p.ahead, p.within))

  pub passes-number : l.number ≡ c.number
  passes-number = ap (λ (l : Located). l.number) p.place

  pub passes-one : entry_of c.start p.kind p.bytes ≡ entry_at s l
  passes-one =
      let fixed : fixed_part p.kind p.bytes ≡ fixed_part p.kind (drop c.start s) =
      rw (p.split, ← p.known) (sym (well-fixed p.bytes (drop d.start s) p.well)) in
      rw (here, kind, fixed)

  pub passes-entry : (r : Trace) → entries_of (message c p.kind p.bytes r) ≡ entry_at s l ∷ entries_of r
  passes-entry r = ap (λ (e : Entry). e ∷ entries_of r) passes-one
