-- One message: its fixed part, its size and the checks of its own bytes.
-- Assumes nothing.
use Rattle.std.specs.Prelude.{ℕ, ◌+◌, List, take, drop}
use Rattle.mrd_numbers.specs.Little.{num}
use Rattle.mrd_format.specs.declared.kind.Kind.{Kind}
use Rattle.mrd_format.specs.Kinds.{form_of, fixed_size}
use Rattle.mrd_logic.specs.Checks.{Check}
use Rattle.mrd_format.specs.Segments.{total}
unfoldable pub use Rattle.mrd_format.specs.Segments.{name_length}
unfoldable pub use Rattle.mrd_format.specs.Texts.{text_length}

-- 'over 268,435,456 bytes'
abbrev pub limit : ℕ
limit = 268435456

-- the id of the message at the front of t
abbrev pub id_at : List ℕ → ℕ
id_at t = num 2 t 0

-- the fixed part of a message of kind k at the front of t: the bytes after the id. The offsets of the header tables count from its first byte
unfoldable pub fixed_part : Kind → List ℕ → List ℕ
fixed_part k t = take (fixed_size k) (drop 2 t)

-- checks 4 to 9 'in number order where they apply', of a fixed part h
unfoldable pub own_checks : Kind → List ℕ → List Check
own_checks k h = (form_of k).checks h

-- the bytes after a fixed part h: the table's 'then'
unfoldable pub body_size : Kind → List ℕ → ℕ
body_size k h = total ((form_of k).body_segments h)

-- the whole message, id included. 'Sizes never wrap'
unfoldable pub size_of : Kind → List ℕ → ℕ
size_of k h = 2 + fixed_size k + body_size k h

-- the message of kind k at the front of t, by the size that its fixed part gives
abbrev pub message_at : Kind → List ℕ → List ℕ
message_at k t = take (size_of k (fixed_part k t)) t

-- a 'kind's own numbers', in the paper's order
unfoldable pub numbers_of : Kind → List ℕ → List ℕ
numbers_of k h = (form_of k).numbers h
