-- Cells that leave no byte of a header out, and headers that agree in the fields of the record: what the laws of headers speak of.
-- Assumes nothing.
use Rattle.std.specs.Prelude.{ℕ, ◌+◌, ◌≡◌, Bool, true, false, ◌&&◌, List, [], ◌∷◌, eqb}
use Rattle.mrd_format.specs.Headers.{Cell, field, length_of, gap, run_size, run_bytes}

-- whether a cell stands at the byte `at`: filler does wherever the cell before it ends
abbrev pub stands_at : ℕ → Cell → Bool
stands_at at (field r) = eqb r.offset at
stands_at at (length_of p r) = eqb r.offset at
stands_at at (gap n) = true

abbrev pub cell_size : Cell → ℕ
cell_size (field r) = run_size r
cell_size (length_of p r) = run_size r
cell_size (gap n) = n

-- whether the cells stand one after the other from the byte `at` to the byte `end`, and leave no byte out
abbrev pub lawful : ℕ → ℕ → List Cell → Bool
lawful at end [] = eqb at end
lawful at end (c ∷ cs) = stands_at at c && lawful (at + cell_size c) end cs

-- headers g and h agree in the bytes of every field of the record
abbrev pub SameFields : List Cell → List ℕ → List ℕ → Type 0
SameFields [] g h = Unit {0}
SameFields (field r ∷ cs) g h = (run_bytes r g ≡ run_bytes r h) × SameFields cs g h
SameFields (length_of p r ∷ cs) g h = SameFields cs g h
SameFields (gap n ∷ cs) g h = SameFields cs g h

-- whether every byte is one of a field of the record
abbrev pub all_fields : List Cell → Bool
all_fields [] = true
all_fields (field r ∷ cs) = all_fields cs
all_fields (length_of p r ∷ cs) = false
all_fields (gap n ∷ cs) = eqb n 0 && all_fields cs
