-- 'Tagged fields: one-byte tag, two-byte length, body'.
-- Assumes nothing.
use Rattle.std.specs.Prelude.{ℕ, List, ◌∷◌, ◌++◌, length}
use Rattle.mrd_numbers.specs.Little.{to_bytes}

-- 'one-byte tag, two-byte length'
abbrev pub heading : ℕ → ℕ → List ℕ
heading tag size = tag ∷ to_bytes 2 size

-- a field with this tag and body
abbrev pub tagged : ℕ → List ℕ → List ℕ
tagged tag body = heading tag (length body) ++ body
