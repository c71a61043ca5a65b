-- A fixed header, cell by cell in the order of its bytes: which of them belong to the record, and the header that a record is written with.
-- Assumes nothing.
use Rattle.std.specs.Prelude.{ℕ, zero, suc, ◌+◌, ◌-◌, ◌*◌, List, [], ◌∷◌, ◌++◌, take, drop, replicate}
use Rattle.mrd_numbers.specs.Little.{to_bytes}
use Rattle.mrd_format.specs.Elements.{Run, width, elements}
use Rattle.mrd_format.specs.Parts.{Part}

pub data Cell : Type 0 where
  -- elements that belong to the record
  field : Run → Cell
  -- the length of a part, as one element: 'The field no longer belongs to the record's meaning'
  length_of : Part → Run → Cell
  -- so many bytes of filler, which 'carry nothing': 'Filler isn't part of the record'
  gap : ℕ → Cell

-- a header's elements, whether they belong to the record or not: 'the field question still shows the stored bytes'
abbrev pub runs : List Cell → List Run
runs [] = []
runs (field r ∷ cs) = r ∷ runs cs
runs (length_of p r ∷ cs) = r ∷ runs cs
runs (gap n ∷ cs) = runs cs

-- the bytes of a run
abbrev pub run_size : Run → ℕ
run_size r = r.count * width r.type

abbrev pub run_bytes : Run → List ℕ → List ℕ
run_bytes r h = take (run_size r) (drop r.offset h)

-- the cells of a header with these elements, all fields of the record, from the byte `at` up to the byte `end`: what they leave out is filler
abbrev pub spaced : ℕ → ℕ → List Run → List Cell
spaced at end [] = gap (end - at) ∷ []
spaced at end (r ∷ rs) = gap (r.offset - at) ∷ (field r ∷ spaced (r.offset + run_size r) end rs)

-- 'every field of a fixed header' h that belongs to the record
abbrev pub values : List Cell → List ℕ → List ℕ
values [] h = []
values (field r ∷ cs) h = elements r h ++ values cs h
values (length_of p r ∷ cs) h = values cs h
values (gap n ∷ cs) h = values cs h

-- the bytes of a cell of the header h in normal form, where z says how long the parts are: 'The normal form and the writer put the true length there',
-- and of filler 'the normal form and the writer make it zero'
abbrev pub cell_bytes : (Part → ℕ) → Cell → List ℕ → List ℕ
cell_bytes z (field r) h = run_bytes r h
cell_bytes z (length_of p r) h = to_bytes (run_size r) (z p)
cell_bytes z (gap n) h = replicate n 0

-- the header h so
abbrev pub settled : (Part → ℕ) → List Cell → List ℕ → List ℕ
settled z [] h = []
settled z (c ∷ cs) h = cell_bytes z c h ++ settled z cs h

-- n numbers of w bytes each, from the front of a list
abbrev pub numbers_written : ℕ → ℕ → List ℕ → List ℕ
numbers_written zero w vs = []
numbers_written (suc n) w [] = []
numbers_written (suc n) w (v ∷ vs) = to_bytes w v ++ numbers_written n w vs

-- a header with these numbers in the record's fields, and 0 for each length and for filler
abbrev pub written : List Cell → List ℕ → List ℕ
written [] vs = []
written (field r ∷ cs) vs = numbers_written r.count (width r.type) vs ++ written cs (drop r.count vs)
written (length_of p r ∷ cs) vs = to_bytes (run_size r) 0 ++ written cs vs
written (gap n ∷ cs) vs = replicate n 0 ++ written cs vs
