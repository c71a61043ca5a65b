-- A header is fixed by its fields and its parts' lengths: the cells of each header leave no byte out, so headers that agree in the fields of the
-- record, with the true lengths put in and the filler zero, are the same bytes; and the fields' numbers, written, are such a header.
-- Assumes nothing.
use Rattle.std.specs.Prelude.{ℕ, zero, suc, ◌+◌, ◌-◌, ◌*◌, ◌≤◌, ◌≡◌, refl, true, List, [], ◌∷◌, ◌++◌, eqb, length, take, drop, replicate}
use Rattle.std.proofs.Common.{add_comm, zero-mul, suc-mul, le_of_eq, arith, sym, ap, ap₂, ◌∙◌, append-nil, append_assoc, eqb-true, length-append, length-drop, length-take-le, take-add, take_all, take_at, drop_at, drop-drop}
use Rattle.std.proofs.lemmas.List.{length-replicate}
use Rattle.mrd_numbers.specs.Little.{to_bytes, Bytes}
use Rattle.mrd_numbers.specs.Laws.{num-take, num-drop, part-take}
use Rattle.mrd_numbers.specs.ByteLaws.{write_num}
use Rattle.mrd_numbers.specs.ToBytesLaws.{length-to_bytes}
use Rattle.mrd_logic.specs.Choice.{both}
use Rattle.mrd_logic.specs.Every.{Every}
use Rattle.mrd_format.specs.Elements.{Run, width, elements_from, elements}
use Rattle.mrd_format.specs.Headers.{Cell, field, length_of, gap, run_size, run_bytes, spaced, values, cell_bytes, settled, numbers_written, written}
use Rattle.mrd_format.specs.Parts.{Part}
use Rattle.mrd_format.specs.declared.rules.Layout.{Layout}
use Rattle.mrd_format.specs.declared.rules.Layout.TheVariants.{Packed, Aligned}
use Rattle.mrd_format.specs.Acquisition as acquisition
use Rattle.mrd_format.specs.Image as image
use Rattle.mrd_format.specs.Waveform as waveform
use Rattle.mrd_format.specs.Lawful.{stands_at, cell_size, lawful, SameFields, all_fields}

-- the bytes of two parts, the second after the first
pub take_next : (a b at : ℕ) (m : List ℕ) → take (a + b) (drop at m) ≡ take a (drop at m) ++ take b (drop (at + a) m)
take_next a b at m = rw (take-add, drop-drop)

-- the bytes of n parts of w bytes each are those of the first, and then those of the others
pub take-parts : (n w at : ℕ) (m : List ℕ) → take (suc n * w) (drop at m) ≡ take w (drop at m) ++ take (n * w) (drop (at + w) m)
take-parts n w at m = rw (suc-mul n w, add_comm (n * w) w) (take_next w (n * w) at m)

pub acquisition-lawful : lawful 0 340 acquisition.cells ≡ true
acquisition-lawful = refl

pub image_lawful : lawful 0 198 image.cells ≡ true
image_lawful = refl

-- each layout's list of offsets
pub waveform-lawful : (l : Layout) → lawful 0 (waveform.header_bytes l) (waveform.cells l) ≡ true
waveform-lawful Packed = refl
waveform-lawful Aligned = refl

-- the two tests of lawful cells
lawful-here : (at end : ℕ) (c : Cell) (cs : List Cell) → lawful at end (c ∷ cs) ≡ true → stands_at at c ≡ true
lawful-here at end c cs p = (both (stands_at at c) (lawful (at + cell_size c) end cs) p).0

lawful-next : (at end : ℕ) (c : Cell) (cs : List Cell) → lawful at end (c ∷ cs) ≡ true → lawful (at + cell_size c) end cs ≡ true
lawful-next at end c cs p = (both (stands_at at c) (lawful (at + cell_size c) end cs) p).1

lawful-ends : (at end : ℕ) (cs : List Cell) → lawful at end cs ≡ true → at ≤ end
lawful-ends at end [] p = le_of_eq (eqb-true at end p)
lawful-ends at end (c ∷ cs) p = omega (arith, lawful-ends (at + cell_size c) end cs (lawful-next at end c cs p))

-- a field stands where the cells before it end, within the header
field_at : (at end : ℕ) (r : Run) (cs : List Cell) → lawful at end (field r ∷ cs) ≡ true → (r.offset ≡ at) × (r.offset + run_size r ≤ end)
field_at at end r cs p =
    let here : r.offset ≡ at = eqb-true r.offset at (lawful-here at end (field r) cs p) in
    (here, omega (arith, here, lawful-ends (at + run_size r) end cs (lawful-next at end (field r) cs p)))

-- each element of a lawful list lies within the header
pub elements_lie : (at end : ℕ) (rs : List Run) → lawful at end (spaced at end rs) ≡ true → Every (λ (r : Run). r.offset + run_size r ≤ end) rs
elements_lie at end [] p = tt
elements_lie at end (r ∷ rs) p =
    let cs = spaced (r.offset + run_size r) end rs in
    let n = r.offset - at in
    let after = lawful-next at end (gap n) (field r ∷ cs) p in
    let here = field_at (at + n) end r cs after in
    (here.1, elements_lie (r.offset + run_size r) end rs (rw (← here.0) at (lawful-next (at + n) end (field r) cs after)))

-- the elements of a run go by its bytes
elements-within : (n w k z : ℕ) (s : List ℕ) → k + n * w ≤ z → elements_from n w k (take z s) ≡ elements_from n w k s
elements-within zero w k z s fits = refl
elements-within (suc n) w k z s fits =
    let all : k + (n * w + w) ≤ z = rw suc-mul at fits in
    ap₂ (λ (v : ℕ) (vs : List ℕ). v ∷ vs) (num-take w z s k (omega arith)) (elements-within n w (k + w) z s (omega arith))

elements-after : (n w k at : ℕ) (s : List ℕ) → elements_from n w k (drop at s) ≡ elements_from n w (at + k) s
elements-after zero w k at s = refl
elements-after (suc n) w k at s =
    let next : at + (k + w) ≡ at + k + w = omega arith in
    ap₂ (λ (v : ℕ) (vs : List ℕ). v ∷ vs) (num-drop w at s k)
    (elements-after n w (k + w) at s ∙ ap (λ (i : ℕ). elements_from n w i s) next)

elements-bytes : (r : Run) (h : List ℕ) → elements r h ≡ elements_from r.count (width r.type) 0 (run_bytes r h)
elements-bytes r h =
    let n = r.count in
    let w = width r.type in
    let at : r.offset + 0 ≡ r.offset = omega arith in
    sym
    (elements-within n w 0 (n * w) (drop r.offset h) (omega arith) ∙ elements-after n w 0 r.offset h ∙
    ap (λ (i : ℕ). elements_from n w i h) at)

-- so such headers have the same fields, and are the same once the true lengths are put in and the filler is zero
pub values_same : (cs : List Cell) (g h : List ℕ) → SameFields cs g h → values cs g ≡ values cs h
values_same [] g h s = refl
values_same (field r ∷ cs) g h s =
    ap₂ (λ (a b : List ℕ). a ++ b)
    (elements-bytes r g ∙ ap (elements_from r.count (width r.type) 0) s.0 ∙ sym (elements-bytes r h)) (values_same cs g h s.1)
values_same (length_of p r ∷ cs) g h s = values_same cs g h s
values_same (gap n ∷ cs) g h s = values_same cs g h s

pub settled_same : (z : Part → ℕ) (cs : List Cell) (g h : List ℕ) → SameFields cs g h → settled z cs g ≡ settled z cs h
settled_same z [] g h s = refl
settled_same z (field r ∷ cs) g h s = ap₂ (λ (a b : List ℕ). a ++ b) s.0 (settled_same z cs g h s.1)
settled_same z (length_of p r ∷ cs) g h s = ap (λ (b : List ℕ). to_bytes (run_size r) (z p) ++ b) (settled_same z cs g h s)
settled_same z (gap n ∷ cs) g h s = ap (λ (b : List ℕ). replicate n 0 ++ b) (settled_same z cs g h s)

-- headers g and h agree in the bytes of a cell, where it is a field of the record
abbrev SameCell : Cell → List ℕ → List ℕ → Type 0
SameCell (field r) g h = run_bytes r g ≡ run_bytes r h
SameCell (length_of p r) g h = Unit {0}
SameCell (gap n) g h = Unit {0}

same_with : (c : Cell) (cs : List Cell) (g h : List ℕ) → SameCell c g h → SameFields cs g h → SameFields (c ∷ cs) g h
same_with (field r) cs g h s rest = (s, rest)
same_with (length_of p r) cs g h s rest = rest
same_with (gap n) cs g h s rest = rest

-- headers whose first bytes are the same agree in the fields that stand there
cell_front : (at end : ℕ) (c : Cell) (cs : List Cell) (g h : List ℕ) → lawful at end (c ∷ cs) ≡ true → take end g ≡ take end h → SameCell c g h
cell_front at end (field r) cs g h p e =
    let within : (t : List ℕ) → run_bytes r (take end t) ≡ run_bytes r t =
    λ t. part-take (run_size r) end t r.offset (field_at at end r cs p).1 in
    sym (within g) ∙ ap (run_bytes r) e ∙ within h
cell_front at end (length_of q r) cs g h p e = tt
cell_front at end (gap n) cs g h p e = tt

fields-front : (at end : ℕ) (cs : List Cell) (g h : List ℕ) → lawful at end cs ≡ true → take end g ≡ take end h → SameFields cs g h
fields-front at end [] g h p e = tt
fields-front at end (c ∷ cs) g h p e =
    same_with c cs g h (cell_front at end c cs g h p e) (fields-front (at + cell_size c) end cs g h (lawful-next at end c cs p) e)

pub front-fields : (end : ℕ) (cs : List Cell) (g h : List ℕ) → lawful 0 end cs ≡ true → take end g ≡ take end h → SameFields cs g h
front-fields end cs g h p e = fields-front 0 end cs g h p e

-- b may stand for a cell of h: for a field the bytes that h has there, for any other as many as it takes
abbrev CellIn : List ℕ → Cell → List ℕ → Type 0
CellIn h (field r) b = b ≡ run_bytes r h
CellIn h (length_of p r) b = length b ≡ run_size r
CellIn h (gap n) b = length b ≡ n

run_long : (r : Run) (h : List ℕ) → r.offset + run_size r ≤ length h → length (run_bytes r h) ≡ run_size r
run_long r h fits = length-take-le (run_size r) (drop r.offset h) (simp length-drop (omega arith))

cell_long : (at end : ℕ) (h : List ℕ) (c : Cell) (cs : List Cell) (b : List ℕ) → lawful at end (c ∷ cs) ≡ true → end ≤ length h → CellIn h c b →
    length b ≡ cell_size c
cell_long at end h (field r) cs b p fits e = ap length e ∙ run_long r h (omega (arith, field_at at end r cs p))
cell_long at end h (length_of q r) cs b p fits e = e
cell_long at end h (gap n) cs b p fits e = e

-- t is built of such cells, one after the other
abbrev Built : List ℕ → List Cell → List ℕ → Type 0
Built h [] t = Unit {0}
Built h (c ∷ cs) t = (b : List ℕ) × ((u : List ℕ) × (CellIn h c b × ((t ≡ b ++ u) × Built h cs u)))

-- then it agrees with h in the fields
built_cell : (end : ℕ) (h pre b u : List ℕ) (c : Cell) (cs : List Cell) → lawful (length pre) end (c ∷ cs) ≡ true → end ≤ length h → CellIn h c b →
    SameCell c (pre ++ (b ++ u)) h
built_cell end h pre b u (field r) cs p fits e =
    let here = (field_at (length pre) end r cs p).0 in
    rw (drop_at pre (b ++ u) r.offset (sym here)) (take_at b u (run_size r) (cell_long (length pre) end h (field r) cs b p fits e)) ∙ e
built_cell end h pre b u (length_of q r) cs p fits e = tt
built_cell end h pre b u (gap n) cs p fits e = tt

built_fields : (end : ℕ) (h pre : List ℕ) (cs : List Cell) (t : List ℕ) → lawful (length pre) end cs ≡ true → end ≤ length h → Built h cs t →
    SameFields cs (pre ++ t) h
built_fields end h pre [] t p fits w = tt
built_fields end h pre (c ∷ cs) t p fits w =
    let b = w.0 in
    let u = w.1.0 in
    let is = w.1.1.0 in
    let far : length (pre ++ b) ≡ length pre + cell_size c =
    length-append pre b ∙ ap (λ (n : ℕ). length pre + n) (cell_long (length pre) end h c cs b p fits is) in
    let later = built_fields end h (pre ++ b) cs u (rw far (lawful-next (length pre) end c cs p)) fits w.1.1.1.1 in
    rw w.1.1.1.0 (same_with c cs (pre ++ (b ++ u)) h (built_cell end h pre b u c cs p fits is) (rw (← append_assoc pre b u) later))

-- a header in normal form is built so, whatever follows it
settled_cell : (z : Part → ℕ) (c : Cell) (h : List ℕ) → CellIn h c (cell_bytes z c h)
settled_cell z (field r) h = refl
settled_cell z (length_of p r) h = length-to_bytes (run_size r) (z p)
settled_cell z (gap n) h = length-replicate n 0

built_settled : (z : Part → ℕ) (cs : List Cell) (h x : List ℕ) → Built h cs (settled z cs h ++ x)
built_settled z [] h x = tt
built_settled z (c ∷ cs) h x = (
  cell_bytes z c h,
  (settled z cs h ++ x, (settled_cell z c h, (append_assoc (cell_bytes z c h) (settled z cs h) x, built_settled z cs h x))),
)

pub settled-fields : (z : Part → ℕ) (end : ℕ) (cs : List Cell) (h x : List ℕ) → lawful 0 end cs ≡ true → end ≤ length h →
    SameFields cs (settled z cs h ++ x) h
settled-fields z end cs h x p fits = built_fields end h [] cs (settled z cs h ++ x) p fits (built_settled z cs h x)

-- and is as long as its cells say
settled-from : (z : Part → ℕ) (at end : ℕ) (cs : List Cell) (h : List ℕ) → lawful at end cs ≡ true → end ≤ length h →
    at + length (settled z cs h) ≡ end
settled-from z at end [] h p fits = omega (arith, eqb-true at end p)
settled-from z at end (c ∷ cs) h p fits =
    let long = cell_long at end h c cs (cell_bytes z c h) p fits (settled_cell z c h) in
    rw length-append (omega (arith, long, settled-from z (at + cell_size c) end cs h (lawful-next at end c cs p) fits))

pub settled-long : (z : Part → ℕ) (end : ℕ) (cs : List Cell) (h : List ℕ) → lawful 0 end cs ≡ true → end ≤ length h →
    length (settled z cs h) ≡ end
settled-long z end cs h p fits = omega (arith, settled-from z 0 end cs h p fits)

-- the numbers of one run, written, are the bytes that they were read from
numbers-written : (n w at : ℕ) (h vs : List ℕ) → Bytes h → at + n * w ≤ length h →
    numbers_written n w (elements_from n w at h ++ vs) ≡ take (n * w) (drop at h)
numbers-written zero w at h vs b fits = rw zero-mul
numbers-written (suc n) w at h vs b fits =
    let size : suc n * w ≡ n * w + w = suc-mul n w in
    rw (take-parts n w at h, write_num w h at b (omega arith), numbers-written n w (at + w) h vs b (omega arith))

elements_dropped : (n w at : ℕ) (h vs : List ℕ) → drop n (elements_from n w at h ++ vs) ≡ vs
elements_dropped zero w at h vs = refl
elements_dropped (suc n) w at h vs = elements_dropped n w (at + w) h vs

-- so the fields of a header, written, are built so
built_written : (at end : ℕ) (cs : List Cell) (h : List ℕ) → lawful at end cs ≡ true → Bytes h → end ≤ length h →
    Built h cs (written cs (values cs h))
built_written at end [] h p b fits = tt
built_written at end (field r ∷ cs) h p b fits =
    let n = r.count in
    let w = width r.type in
    let ends : r.offset + n * w ≤ length h = omega (arith, field_at at end r cs p) in (
      run_bytes r h,
      (
        written cs (values cs h),
        (
          refl,
          (
            ap₂ (λ (a v : List ℕ). a ++ written cs v) (numbers-written n w r.offset h (values cs h) b ends)
                (elements_dropped n w r.offset h (values cs h)),
            built_written (at + n * w) end cs h (lawful-next at end (field r) cs p) b fits,
          ),
        ),
      ),
    )
built_written at end (length_of q r ∷ cs) h p b fits = (
  to_bytes (run_size r) 0,
  (
    written cs (values cs h),
    (length-to_bytes (run_size r) 0, (refl, built_written (at + run_size r) end cs h (lawful-next at end (length_of q r) cs p) b fits)),
  ),
)
built_written at end (gap n ∷ cs) h p b fits = (
  replicate n 0,
  (
    written cs (values cs h),
    (length-replicate n 0, (refl, built_written (at + n) end cs h (lawful-next at end (gap n) cs p) b fits)),
  ),
)

pub written-fields : (end : ℕ) (cs : List Cell) (h : List ℕ) → lawful 0 end cs ≡ true → Bytes h → end ≤ length h →
    SameFields cs (written cs (values cs h)) h
written-fields end cs h p b fits = built_fields end h [] cs (written cs (values cs h)) p fits (built_written 0 end cs h p b fits)

-- such cells keep their bytes
pub fields-settled : (z : Part → ℕ) (at end : ℕ) (cs ds : List Cell) (h : List ℕ) → all_fields cs ≡ true → lawful at end cs ≡ true →
    settled z (cs ++ ds) h ≡ take (end - at) (drop at h) ++ settled z ds h
fields-settled z at end [] ds h a p =
    let none : end - at ≡ 0 = omega (arith, eqb-true at end p) in
    ap (λ (n : ℕ). take n (drop at h) ++ settled z ds h) (sym none)
fields-settled z at end (field r ∷ cs) ds h a p =
    let here = field_at at end r cs p in
    let left = end - (at + run_size r) in
    let size : end - at ≡ run_size r + left = omega (arith, here) in
    let joined : run_bytes r h ++ take left (drop (at + run_size r) h) ≡ take (end - at) (drop at h) =
    rw (here.0, size) (sym (take_next (run_size r) left at h)) in
    ap (λ (b : List ℕ). run_bytes r h ++ b) (fields-settled z (at + run_size r) end cs ds h a (lawful-next at end (field r) cs p)) ∙
    sym (append_assoc (run_bytes r h) (take left (drop (at + run_size r) h)) (settled z ds h)) ∙
    ap (λ (b : List ℕ). b ++ settled z ds h) joined
fields-settled z at end (gap n ∷ cs) ds h a p =
    let tests = both (eqb n 0) (all_fields cs) a in
    let none : n ≡ 0 = eqb-true n 0 tests.0 in
    let stays : at + n ≡ at = omega (arith, none) in
    ap (λ (i : ℕ). replicate i 0 ++ settled z (cs ++ ds) h) none ∙
    fields-settled z at end cs ds h tests.1 (rw stays at (lawful-next at end (gap n) cs p))
fields-settled z at end (length_of q r ∷ cs) ds h a p = absurd (let n : ◌≡◌ {A = ℕ} 0 1 = cc in omega arith)

pub front-settled : (z : Part → ℕ) (end : ℕ) (cs ds : List Cell) (h : List ℕ) → all_fields cs ≡ true → lawful 0 end cs ≡ true →
    settled z (cs ++ ds) h ≡ take end h ++ settled z ds h
front-settled z end cs ds h a p =
    let size : end - 0 ≡ end = omega arith in
    rw size at (fields-settled z 0 end cs ds h a p)

-- a header whose cells are all fields stays as it is
pub all_settled : (z : Part → ℕ) (end : ℕ) (cs : List Cell) (h : List ℕ) → all_fields cs ≡ true → lawful 0 end cs ≡ true →
    settled z cs h ≡ take end h
all_settled z end cs h a p =
    ap (λ (ds : List Cell). settled z ds h) (sym (append-nil cs)) ∙ front-settled z end cs [] h a p ∙ append-nil (take end h)

pub whole-settled : (z : Part → ℕ) (n : ℕ) (cs : List Cell) (h : List ℕ) → all_fields cs ≡ true → lawful 0 n cs ≡ true → length h ≡ n → settled z cs h ≡ h
whole-settled z n cs h a p e = all_settled z n cs h a p ∙ take_all n h (le_of_eq e)
