-- What the bytes after a message's id need, to be put: a whole header and fixed part, lengths that fit, and room.
-- Assumes nothing.
use Rattle.std.specs.Prelude.{ℕ, ◌^◌, ◌≤◌, ◌<◌, ◌≡◌, List, length}
use Rattle.mrd_format.specs.declared.kind.Kind.{Kind}
use Rattle.mrd_format.specs.Kinds.{fixed_size, header_size}
use Rattle.mrd_format.specs.Parts.{Contents}
use Rattle.mrd_format.specs.Content.{fixed_of, bytes_after_id}

-- what is given has a whole header and makes a whole fixed part, and a text's and an image's attributes' length fit four bytes
pub record Ready (k : Kind) (c : Contents) : Type 0 where
  pub header : length c.header ≡ header_size k
  pub fixed : length (fixed_of k c) ≡ fixed_size k
  pub text : length c.parts.text < 2 ^ 32
  pub attributes : length c.parts.attributes < 2 ^ 32

-- what is given is ready, and the part o of the output has room for what follows the id
abbrev pub Roomy : Kind → Contents → List ℕ → Type 0
Roomy k c o = Ready k c × (length (bytes_after_id k c) ≤ length o)
