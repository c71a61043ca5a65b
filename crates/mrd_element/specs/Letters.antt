-- The letters by which the source tells what starts at an offset of a header, in place of the header's table.
-- Assumes nothing.
use Rattle.std.specs.Prelude.{ℕ, ◌-◌, ◌%◌, eqb}
use Rattle.mrd_logic.specs.Choice.{pick}
use Rattle.mrd_format.specs.Elements.{u16, u32, u64, i32, f32}
use Rattle.mrd_element.specs.Element.{Start, starts, none}

-- the letters H, I, Q, i and f, and the dot
abbrev pub letter_of : Start → ℕ
letter_of (starts u16) = 72
letter_of (starts u32) = 73
letter_of (starts u64) = 81
letter_of (starts i32) = 105
letter_of (starts f32) = 102
letter_of none = 46

-- the letter at an offset among elements of one width, from the first one's offset on, and a dot where none of them starts
unfoldable pub letter_among : ℕ → ℕ → ℕ → ℕ → ℕ
letter_among first width letter at = pick (eqb ((at - first) % width) 0) letter 46

-- the bytes of an element with this letter, 0 for the dot
unfoldable pub letter_width : ℕ → ℕ
letter_width n = pick (eqb n 72) 2 (pick (eqb n 73) 4 (pick (eqb n 81) 8 (pick (eqb n 105) 4 (pick (eqb n 102) 4 0))))
