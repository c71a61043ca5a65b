-- The same syntax read octet by octet: what is known of the octets read is the list of the ranges still due.
-- Assumes nothing.
use Rattle.std.specs.Prelude.{ℕ, Bool, true, false, List, [], ◌∷◌}
use Rattle.mrd_logic.specs.Choice.{pick}
use Rattle.mrd_utf8.specs.Utf8.{Range, ◌to◌, inside, rows}

-- what is due after a fault: an octet that there is not
abbrev pub never : List Range
never = 1 to 0 ∷ []

-- what is due after the first octet of a character: the rest of the row that begins with it
unfoldable pub begun : List (List Range) → ℕ → List Range
begun [] b = never
begun ([] ∷ rest) b = begun rest b
begun ((r ∷ row) ∷ rest) b = pick (inside r b) row (begun rest b)

-- what is due after one octet more; between two characters nothing is due
unfoldable pub next : List Range → ℕ → List Range
next [] b = begun rows b
next (r ∷ row) b = pick (inside r b) row never

-- and after the octets s
abbrev pub run : List Range → List ℕ → List Range
run due [] = due
run due (b ∷ s) = run (next due b) s

-- nothing is due
abbrev pub done : List Range → Bool
done [] = true
done (r ∷ row) = false

-- the octets s are UTF-8: 'UTF8-octets' (FoldLaws.antt's `utf8-exactly`)
unfoldable pub utf8_of : List ℕ → Bool
utf8_of s = done (run [] s)
