-- The pieces of a header adjoin from its first byte to its last, so each of its bytes belongs to one of them; and each element stands where the
-- header's table has it start.
-- Assumes nothing.
use Rattle.std.specs.Prelude.{ℕ, zero, suc, ◌+◌, ◌-◌, ◌≤◌, ◌<◌, ◌≡◌, refl, Bool, true, false, ◌&&◌, List, [], ◌∷◌, ◌++◌, map, eqb, Some, None}
use Rattle.std.proofs.Common.{arith, sym, ap, ⊎_elim, eqb-true}
use Rattle.std.proofs.lemmas.Bool.{false≢true, eqb-false}
use Rattle.std.proofs.lemmas.List.{map-append}
use Rattle.mrd_logic.specs.Answer.{Answer, answered, stream, number, and_then}
use Rattle.mrd_logic.specs.AnswerLaws.{answered-not-number, answered-not-stream}
use Rattle.mrd_logic.specs.Choice.{pick, both, either}
use Rattle.mrd_logic.specs.Lists.{Nth}
use Rattle.mrd_format.specs.declared.kind.Kind.{Kind}
use Rattle.mrd_format.specs.declared.rules.Layout.TheVariants.{Packed, Aligned}
use Rattle.mrd_format.specs.Elements.{ElementType, u16, u32, u64, i32, f32, Run, width}
use Rattle.mrd_format.specs.Headers.{Cell, field, length_of, gap, runs, run_size}
use Rattle.mrd_format.specs.Lawful.{lawful}
use Rattle.mrd_format.proofs.HeaderLaws.{acquisition-lawful, image_lawful, waveform-lawful}
use Rattle.mrd_format.specs.Parts.{Extent, extent}
use Rattle.mrd_format.specs.Kinds.{form_of, header_size}
use Rattle.mrd_format.specs.Holding.{holds, holding, evenly}
use Rattle.mrd_format.specs.Adjoining.{Adjoins}
use Rattle.mrd_format.proofs.AdjoinLaws.{adjoins_append, evenly-adjoin}
use Rattle.mrd_format.proofs.HoldingLaws.{holds_true, held, held-once, found-held, found-there}
use Rattle.mrd_element.specs.declared.byte.ElementPlace.{ElementPlace}
use Rattle.mrd_element.specs.Element.{Start, starts, none, starts_among, type_at, element_at}
use Rattle.mrd_element.specs.Letters.{letter_of, letter_width}
use Rattle.mrd_element.specs.LetterLaws.{picked}
use Rattle.mrd_element.specs.Pieces.{start_width, Piece, element, filler, place_of, run_pieces, pieces_from, header_pieces, header_byte, header_byte_of}

-- elements lie where their places say
element-places : (es : List Extent) → map place_of (map element es) ≡ es
element-places [] = refl
element-places (e ∷ es) = ap (λ (ds : List Extent). e ∷ ds) (element-places es)

run_adjoins : (r : Run) (at : ℕ) → r.offset ≡ at → Adjoins at (at + run_size r) (map place_of (run_pieces r))
run_adjoins r at e = rw (element-places (evenly r.count r.offset (width r.type)), ← e) (evenly-adjoin r.count r.offset (width r.type))

-- a run that stands at `at`, and pieces that adjoin where the cells after it are lawful
run-first : (at end : ℕ) (r : Run) (cs : List Cell) (ps : List Piece) → (eqb r.offset at && lawful (at + run_size r) end cs) ≡ true →
    (lawful (at + run_size r) end cs ≡ true → Adjoins (at + run_size r) end (map place_of ps)) → Adjoins at end (map place_of (run_pieces r ++ ps))
run-first at end r cs ps p after =
    let tests = both (eqb r.offset at) (lawful (at + run_size r) end cs) p in
    rw map-append
    (adjoins_append at (at + run_size r) end (map place_of (run_pieces r)) (map place_of ps) (run_adjoins r at (eqb-true r.offset at tests.0)) (after tests.1))

pieces-adjoin : (at end : ℕ) (cs : List Cell) → lawful at end cs ≡ true → Adjoins at end (map place_of (pieces_from at cs))
pieces-adjoin at end [] p = eqb-true at end p
pieces-adjoin at end (field r ∷ cs) p = run-first at end r cs (pieces_from (at + run_size r) cs) p (pieces-adjoin (at + run_size r) end cs)
pieces-adjoin at end (length_of q r ∷ cs) p = run-first at end r cs (pieces_from (at + run_size r) cs) p (pieces-adjoin (at + run_size r) end cs)
pieces-adjoin at end (gap n ∷ cs) p = (refl, pieces-adjoin (at + n) end cs (both true (lawful (at + n) end cs) p).1)

header-lawful : (k : Kind) → lawful 0 (header_size k) (form_of k).cells ≡ true
header-lawful Kind.ConfigurationName = refl
header-lawful Kind.ConfigurationText = refl
header-lawful Kind.HeaderText = refl
header-lawful Kind.Close = refl
header-lawful Kind.Text = refl
header-lawful Kind.Acquisition = acquisition-lawful
header-lawful Kind.Image = image_lawful
header-lawful (Kind.Waveform l) = waveform-lawful l

-- the pieces of a header adjoin, from its first byte to its last
pub header_adjoins : (k : Kind) → Adjoins 0 (header_size k) (map place_of (header_pieces k))
header_adjoins k = pieces-adjoin 0 (header_size k) (form_of k).cells (header-lawful k)

-- a list has x
abbrev Has : List Piece → Piece → Type 0
Has ps p = (n : ℕ) × Nth ps n p

has-later : (qs ps : List Piece) (p : Piece) → Has ps p → Has (qs ++ ps) p
has-later [] ps p h = h
has-later (q ∷ qs) ps p h = let r = has-later qs ps p h in (suc r.0, r.1)

has-earlier : (n : ℕ) (qs ps : List Piece) (p : Piece) → Nth qs n p → Has (qs ++ ps) p
has-earlier n [] ps p h = absurd h
has-earlier zero (q ∷ qs) ps p h = (0, h)
has-earlier (suc n) (q ∷ qs) ps p h = let r = has-earlier n qs ps p h in (suc r.0, r.1)

-- an element that starts among those of a run is one of its pieces
run-has : (n w from at : ℕ) → starts_among n w from at ≡ true → Has (map element (evenly n from w)) (element (extent at w))
run-has zero w from at e = absurd (false≢true e)
run-has (suc n) w from at e =
    ⊎_elim (λ here. (0, ap (λ (i : ℕ). element (extent i w)) (sym (eqb-true at from here))))
    (λ later. let r = run-has n w (from + w) at later in (suc r.0, r.1))
    (either (eqb at from) (starts_among n w (from + w) at) e)

in_run : (r : Run) (rs : List Run) (at : ℕ) (ps : List Piece) {e : ElementType} → (type_at rs at ≡ starts e → Has ps (element (extent at (width e)))) →
    pick (starts_among r.count (width r.type) r.offset at) (starts r.type) (type_at rs at) ≡ starts e →
    Has (run_pieces r ++ ps) (element (extent at (width e)))
in_run r rs at ps {e} later q =
    ⊎_elim (λ here.
    let found = run-has r.count (width r.type) r.offset at here.0 in
    let type : r.type ≡ e = cc in
    rw (← type) (has-earlier found.0 (run_pieces r) ps (element (extent at (width r.type))) found.1))
    (λ other. has-later (run_pieces r) ps (element (extent at (width e))) (later other))
    (picked (starts_among r.count (width r.type) r.offset at) (starts r.type) (type_at rs at) (starts e) q)

-- an element that starts in a header's table is one of the header's pieces
pieces_have : (b : ℕ) (cs : List Cell) (at : ℕ) {e : ElementType} → type_at (runs cs) at ≡ starts e → Has (pieces_from b cs) (element (extent at (width e)))
unfolding type_at
pieces_have b [] at q = absurd (let z : ◌≡◌ {A = ℕ} 0 1 = cc in omega arith)
pieces_have b (field r ∷ cs) at q = in_run r (runs cs) at (pieces_from (b + run_size r) cs) (pieces_have (b + run_size r) cs at) q
pieces_have b (length_of p r ∷ cs) at q = in_run r (runs cs) at (pieces_from (b + run_size r) cs) (pieces_have (b + run_size r) cs at) q
pieces_have b (gap n ∷ cs) at q = let h = pieces_have (b + n) cs at q in (suc h.0, h.1)

-- an element's letter says how many bytes it has
pub letter_width_lem : (s : Start) → letter_width (letter_of s) ≡ start_width s
unfolding letter_width
letter_width_lem (starts u16) = refl
letter_width_lem (starts u32) = refl
letter_width_lem (starts u64) = refl
letter_width_lem (starts i32) = refl
letter_width_lem (starts f32) = refl
letter_width_lem none = refl

-- an element is what its bytes belong to
pub element-over : (k : Kind) (at o : ℕ) → o ≤ at → at < o + start_width (element_at k o) →
    header_byte_of k at ≡ answered (Some (record { offset = o; size = start_width (element_at k o) }))
unfolding header_byte_of
element-over k at o low high = by (element_at k o) refl high
  where
    by : (s : Start) → element_at k o ≡ s → at < o + start_width s → header_byte_of k at ≡ answered (Some (record { offset = o; size = start_width s }))
    by none e h = absurd (omega arith)
    by (starts t) e h =
        let found = pieces_have 0 (form_of k).cells o e in
        let x = element (extent o (width t)) in
        rw (found-held place_of (header_pieces k) 0 (header_size k) at found.0 x (header_adjoins k) found.1 (holds_true (extent o (width t)) at low h))

-- whether an element starts in a table where it stands
abbrev starts_there : List Run → Piece → Bool
starts_there t (element e) = eqb (start_width (type_at t e.offset)) e.size
starts_there t (filler e) = true

abbrev all_start : List Run → List Piece → Bool
all_start t [] = true
all_start t (p ∷ ps) = starts_there t p && all_start t ps

start-there : (t : List Run) (ps : List Piece) (n : ℕ) (p : Piece) → all_start t ps ≡ true → Nth ps n p → starts_there t p ≡ true
start-there t [] n p e h = absurd h
start-there t (q ∷ ps) zero p e h = rw (← h) (both (starts_there t q) (all_start t ps) e).0
start-there t (q ∷ ps) (suc n) p e h = start-there t ps n p (both (starts_there t q) (all_start t ps) e).1 h

all_start_lem : (k : Kind) → all_start (runs (form_of k).cells) (header_pieces k) ≡ true
unfolding type_at
all_start_lem Kind.ConfigurationName = refl
all_start_lem Kind.ConfigurationText = refl
all_start_lem Kind.HeaderText = refl
all_start_lem Kind.Close = refl
all_start_lem Kind.Text = refl
all_start_lem Kind.Acquisition = refl
all_start_lem Kind.Image = refl
all_start_lem (Kind.Waveform Packed) = refl
all_start_lem (Kind.Waveform Aligned) = refl

-- none of the elements that start so many bytes before `at`, or fewer, holds it
abbrev pub NoneOver : Kind → ℕ → ℕ → Type 0
NoneOver k at back = (b : ℕ) → b < back → b ≤ at → start_width (element_at k (at - b)) ≤ b

pub none_more : (k : Kind) (at back : ℕ) → NoneOver k at back → start_width (element_at k (at - back)) ≤ back → NoneOver k at (back + 1)
none_more k at back o h b l m = by-test (eqb b back) refl
  where
    by-test : (t : Bool) → eqb b back ≡ t → start_width (element_at k (at - b)) ≤ b
    by-test true e = rw (eqb-true b back e) h
    by-test false e = o b (omega (arith, eqb-false b back e)) m

-- no element is wider than eight bytes
narrow : (s : Start) → start_width s ≤ 8
narrow (starts u16) = omega arith
narrow (starts u32) = omega arith
narrow (starts u64) = omega arith
narrow (starts i32) = omega arith
narrow (starts f32) = omega arith
narrow none = omega arith

-- a byte that none of them holds is filler
pub none_over : (k : Kind) (at back : ℕ) → at < header_size k → NoneOver k at back → ((b : ℕ) → b ≤ at → b < 8 → b < back) → header_byte_of k at ≡ answered None
unfolding header_byte_of
none_over k at back inside o far =
    let r = held-once place_of (header_pieces k) 0 (header_size k) at (header_adjoins k) (omega arith) inside in
    by r.1.0 r.1.1.0 r.1.1.1.inside (start-there (runs (form_of k).cells) (header_pieces k) r.0 r.1.0 (all_start_lem k) r.1.1.1.there)
  where
    by : (p : Piece) → holding place_of (header_pieces k) at ≡ answered p → holds (place_of p) at ≡ true → starts_there (runs (form_of k).cells) p ≡ true →
        header_byte_of k at ≡ answered None
    by (filler e) q h s = rw q
    by (element e) q h s =
        let w : start_width (element_at k e.offset) ≡ e.size = eqb-true _ _ s in
        let over = held e at h in
        let b = at - e.offset in
        let back_to : at - b ≡ e.offset = omega (arith, over.0) in
        let near : b < back = far b (omega arith) (omega (arith, over, w, narrow (element_at k e.offset))) in
        absurd (omega (arith, rw (back_to, w) at (o b near (omega arith)), over))

-- an element that is told of a byte starts in the header's table, where it is told to stand
pub element-starts : (k : Kind) (i : ℕ) {e : ElementPlace} → header_byte_of k i ≡ answered (Some e) → (t : ElementType) × ((element_at k e.offset ≡ starts t) × (width t ≡ e.size))
unfolding header_byte_of
element-starts k i {e} told = by-piece (holding place_of (header_pieces k) i) refl told
  where
    by-start : (o z : ℕ) (s : Start) → element_at k o ≡ s → start_width s ≡ z → 0 < z → (t : ElementType) × ((element_at k o ≡ starts t) × (width t ≡ z))
    by-start o z (starts t) found wide some = (t, (found, wide))
    by-start o z none found wide some = absurd (omega (arith, wide))

    by-piece : (a : Answer Piece) → holding place_of (header_pieces k) i ≡ a → and_then a (λ p. answered (header_byte p)) ≡ answered (Some e) →
        (t : ElementType) × ((element_at k e.offset ≡ starts t) × (width t ≡ e.size))
    by-piece (stream f r b) h q = absurd (answered-not-stream (sym q))
    by-piece (number n) h q = absurd (answered-not-number (sym q))
    by-piece (answered (filler x)) h q = absurd (let z : ◌≡◌ {A = ℕ} 0 1 = cc in omega arith)
    by-piece (answered (element x)) h q =
        let there = found-there place_of (header_pieces k) i h in
        let wide = eqb-true _ _ (start-there (runs (form_of k).cells) (header_pieces k) there.0 (element x) (all_start_lem k) there.1.0) in
        let some = held x i there.1.1 in
        let offset : x.offset ≡ e.offset = cc in
        let size : x.size ≡ e.size = cc in
        rw (← offset, ← size) (by-start x.offset x.size (element_at k x.offset) refl wide (omega (arith, some)))
