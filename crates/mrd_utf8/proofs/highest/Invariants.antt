-- None of the octets so far is above `high`.
use Rattle.std.proofs.Common.{ℕ, ◌≤◌, ◌<◌, get_or}
use Rattle.mrd_utf8.proofs.highest.Given as goal

abbrev pub invariant-loop-octet : goal.invariant-loop-octet
invariant-loop-octet l = (j : ℕ) → j < l.octet-index → get_or l.s j 0 ≤ l.high
