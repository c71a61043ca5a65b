-- Sizes that may pass 64 bits, compared with the message limit: a size above it is as good as one above it by one.
-- Assumes nothing.
use Rattle.std.specs.Prelude.{ℕ, suc, min}
use Rattle.mrd_format.specs.Message.{limit}

-- n, or one more than the limit where n is above it
abbrev pub capped : ℕ → ℕ
capped n = min n (suc limit)
