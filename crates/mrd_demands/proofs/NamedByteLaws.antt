-- Every byte named once (request E12): each byte of an accepted stream belongs to exactly one part of exactly one record, that part is the one told
-- of it, and each view is its part.
-- Assumes nothing.
use Rattle.std.specs.Prelude.{ℕ, zero, suc, ◌+◌, ◌-◌, ◌≤◌, ◌<◌, ◌≡◌, refl, Bool, true, false, List, [], ◌∷◌, map, length, Option, Some}
use Rattle.std.proofs.Common.{arith, sym, subst, ◌∙◌, take_all}
use Rattle.std.proofs.Math.Path.{ap}
use Rattle.std.proofs.lemmas.Bool.{false≢true}
use Rattle.mrd_logic.specs.Answer.{accepted, answered, stream, number, Answer, and_then}
use Rattle.mrd_logic.specs.AnswerLaws.{answered-not-number, answered-not-stream}
use Rattle.mrd_logic.specs.Joined.{joined}
use Rattle.mrd_logic.specs.Lists.{Nth}
use Rattle.mrd_logic.specs.ListLaws.{every_nth}
use Rattle.mrd_numbers.specs.Little.{num}
use Rattle.mrd_format.specs.declared.kind.Kind.{Kind}
use Rattle.mrd_format.specs.declared.kind.Kind.TheVariants.{ConfigurationName, ConfigurationText, HeaderText, Close, Text, Acquisition, Image, Waveform}
use Rattle.mrd_format.specs.declared.rules.Rules.{Rules}
use Rattle.mrd_format.specs.Elements.{width}
use Rattle.mrd_format.specs.Kinds.{header_size}
use Rattle.mrd_format.specs.Message.{fixed_part}
use Rattle.mrd_format.specs.Parts as part
use Rattle.mrd_format.specs.Parts.{Part, same, Extent, extent, lies, bytes_at}
use Rattle.mrd_format.specs.Segments.{PlacedPart}
use Rattle.mrd_format.specs.Content.{placed_parts, extent_of}
use Rattle.mrd_format.specs.Holding.{holds, OnlyIn}
use Rattle.mrd_format.specs.Adjoining.{Adjoins, places_of}
use Rattle.mrd_format.proofs.HoldingLaws.{held, holds_true, adjoins-to, held-once, held_none, adjoining-bytes}
use Rattle.mrd_format.proofs.ReachLaws.{parts-adjoin, not_there}
use Rattle.mrd_format.specs.PartSearch.{FoundAt}
use Rattle.mrd_format.proofs.ExtentLaws.{parts-found}
use Rattle.mrd_element.specs.declared.byte.ElementPlace.{ElementPlace}
use Rattle.mrd_element.specs.Element.{FieldValue, value_of, element_of}
use Rattle.mrd_element.specs.Pieces.{place_of, header_pieces, header_byte, header_byte_of}
use Rattle.mrd_element.specs.PieceLaws.{header_adjoins, element-starts}
use Rattle.mrd_stream.specs.Walk.{Trace, message, done, trace, answer}
use Rattle.mrd_stream.specs.Places.{Located, places, nth, place}
use Rattle.mrd_stream.specs.Seek.{Numbered, walk-numbered}
use Rattle.mrd_cursor.specs.Cursors.{beginning}
use Rattle.mrd_cut.specs.CutPlaces.{part_at, Adjoin}
use Rattle.mrd_cut.proofs.CutPlacesLaws.{places-cut}
use Rattle.mrd_cut.specs.Inside.{Inside}
use Rattle.mrd_cut.proofs.InsideLaws.{nth_inside, place-nth}
use Rattle.mrd_record.specs.RecordLaws.{fixed-long}
use Rattle.mrd_views.specs.Views.{span}
use Rattle.mrd_views.specs.ViewLaws.{fixed-sized}
use Rattle.mrd_holding.specs.Held.{Held, whole, in_header, told, part_holding}
use Rattle.mrd_holding.specs.HeldLaws.{told_same}
use Rattle.mrd_part_at.specs.PartAt.{extent_at, record_holding, parts_at, part_of_byte}
use Rattle.mrd_fields.specs.Fields.{field_of}
use Rattle.mrd_demands.specs.RecordViews.{ViewOfPart}
use Rattle.mrd_demands.proofs.RecordViewLaws.{each-part-shown}
use Rattle.mrd_demands.specs.NamedBytes.{stream_place, Belongs, NamedOnce, PartsInOrder}

-- places that adjoin, as extents
adjoin_extents : (a b : ℕ) (ls : List Located) → Adjoin a ls b → Adjoins a b (map extent_at ls)
adjoin_extents a b [] p = p
adjoin_extents a b (l ∷ ls) p = (p.0, adjoin_extents (a + l.size) b ls p.1)

-- a place of a walk is that of its number
nth-found : (ls : List Located) (n : ℕ) {l : Located} → Nth ls n l → nth ls n ≡ answered l
nth-found [] n h = absurd h
nth-found (k ∷ ls) zero h = ap answered h
nth-found (k ∷ ls) (suc n) h = nth-found ls n h

nth_number : (r : Trace) (i n : ℕ) (l : Located) → Numbered i r → Nth (places r) n l → l.number ≡ i + n
nth_number (done v) i n l u h = absurd h
nth_number (message c k m r) i zero l u h = rw (← h) (omega (arith, u.0))
nth_number (message c k m r) i (suc n) l u h = omega (arith, nth_number r (suc i) n l u.1 h)

-- a record of s: its parts, in order, are its message
module _ {rules : Rules} (s : List ℕ) (l : Located) (i : Inside rules s l) where
  parts-span : Adjoins 0 l.size (places_of (parts_at s l))
  parts-span =
      subst (λ (z : ℕ). Adjoins 0 z (places_of (parts_at s l))) (sym (fixed-sized s l i).size)
      (parts-adjoin l.kind (fixed_part l.kind (part_at s l)) (fixed-long s l i))

  parts-joined : joined (map (bytes_at (part_at s l)) (places_of (parts_at s l))) ≡ part_at s l
  parts-joined =
      adjoining-bytes (part_at s l) 0 l.size (places_of (parts_at s l)) parts-span ∙ take_all (l.size - 0) (part_at s l) (omega (arith, i.long))

pub parts_in_order : (rules : Rules) (s : List ℕ) (n : ℕ) {l : Located} → place rules s n ≡ answered l → PartsInOrder s l
parts_in_order rules s n {l} e =
    let i = nth_inside rules s n l (place-nth rules s n e) in
    record { adjoin = parts-span s l i; message = parts-joined s l i }

-- a part of the record at l holds byte i of the stream exactly where it holds that byte of the message
to-message : (l : Located) (q : PlacedPart) (i : ℕ) → holds (stream_place l q) i ≡ true → holds q.place (i - l.start) ≡ true
to-message l q i h =
    let x = held (stream_place l q) i h in
    holds_true q.place (i - l.start) (omega (arith, x.0)) (omega (arith, x))

to-stream : (l : Located) (q : PlacedPart) (i : ℕ) → l.start ≤ i → holds q.place (i - l.start) ≡ true → holds (stream_place l q) i ≡ true
to-stream l q i low h =
    let x = held q.place (i - l.start) h in
    holds_true (stream_place l q) i (omega (arith, x.0)) (omega (arith, x.1))

-- and the record holds it then
to_record : (s : List ℕ) (l : Located) (j : ℕ) (q : PlacedPart) (i : ℕ) → Adjoins 0 l.size (places_of (parts_at s l)) → Nth (parts_at s l) j q →
    holds (stream_place l q) i ≡ true → holds (extent_at l) i ≡ true
to_record s l j q i p there h =
    let x = held (stream_place l q) i h in
    let ends = adjoins-to (λ (y : PlacedPart). y.place) (parts_at s l) 0 l.size j q p there in
    holds_true (extent_at l) i (omega (arith, x.0)) (omega (arith, x.1, ends))

-- a header's part is the header
header-named : (p : Part) → same p part.header ≡ true → p ≡ part.header
header-named part.header e = refl
header-named part.id e = absurd (false≢true e)
header-named part.count e = absurd (false≢true e)
header-named part.name e = absurd (false≢true e)
header-named part.filler e = absurd (false≢true e)
header-named part.text e = absurd (false≢true e)
header-named part.attributes e = absurd (false≢true e)
header-named part.trajectory e = absurd (false≢true e)
header-named part.samples e = absurd (false≢true e)
header-named part.pixels e = absurd (false≢true e)
header-named part.waveform e = absurd (false≢true e)
header-named (part.channel c) e = absurd (false≢true e)

header-extent : (k : Kind) (h : List ℕ) {e : Extent} → extent_of part.header k h ≡ lies e → e ≡ extent 2 (header_size k)
unfolding extent_of
header-extent ConfigurationName h q = absurd (not_there q)
header-extent ConfigurationText h q = absurd (not_there q)
header-extent HeaderText h q = absurd (not_there q)
header-extent Close h q = absurd (not_there q)
header-extent Text h q = absurd (not_there q)
header-extent Acquisition h q = cc
header-extent Image h q = cc
header-extent (Waveform l) h q = cc

-- of a byte of a part something is told
always_told : (k : Kind) (h : List ℕ) (at j : ℕ) (q : PlacedPart) → Nth (placed_parts k h) j q → holds q.place at ≡ true → (x : Held) × (told k at q ≡ answered x)
unfolding header_byte_of
always_told k h at j q there inside = by (same q.part part.header) refl
  where
    header-told : q.part ≡ part.header → (b : Option ElementPlace) × (header_byte_of k (at - q.place.offset) ≡ answered b)
    header-told e =
        let found : extent_of part.header k h ≡ lies q.place = rw e at (every_nth (FoundAt k h) (placed_parts k h) j q (parts-found k h) there) in
        let where-it-is : q.place ≡ extent 2 (header_size k) = header-extent k h found in
        let x = held q.place at inside in
        let near : at - q.place.offset < header_size k = omega (arith, x, ap (λ (e : Extent). e.offset) where-it-is, ap (λ (e : Extent). e.size) where-it-is) in
        let r = held-once place_of (header_pieces k) 0 (header_size k) (at - q.place.offset) (header_adjoins k) (omega arith) near in
        (header_byte r.1.0, rw r.1.1.0)

    by : (t : Bool) → same q.part part.header ≡ t → (x : Held) × (told k at q ≡ answered x)
    by false e = (record { part = q.part; place = q.place; inner = whole }, rw e)
    by true e =
        let b = header-told (header-named q.part e) in
        (record { part = q.part; place = q.place; inner = in_header b.0 }, rw (e, b.1))

-- what is told of a header's byte is what the header's pieces say of it
header-inner : (k : Kind) (at : ℕ) (q : PlacedPart) (x : Held) → same q.part part.header ≡ true → told k at q ≡ answered x →
    (b : Option ElementPlace) × ((header_byte_of k (at - q.place.offset) ≡ answered b) × (x.inner ≡ in_header b))
header-inner k at q x is e = by (header_byte_of k (at - q.place.offset)) refl (rw is at e)
  where
    by : (a : Answer (Option ElementPlace)) → header_byte_of k (at - q.place.offset) ≡ a →
        and_then a (λ b. answered (record { part = q.part; place = q.place; inner = in_header b })) ≡ answered x →
        (b : Option ElementPlace) × ((header_byte_of k (at - q.place.offset) ≡ answered b) × (x.inner ≡ in_header b))
    by (answered b) h e = (b, (h, cc))
    by (stream f r b) h e = absurd (answered-not-stream (sym e))
    by (number n) h e = absurd (answered-not-number (sym e))

-- each byte of an accepted stream belongs to exactly one part of exactly one record
module _ (rules : Rules) (s : List ℕ) {n : ℕ} (e : answer rules s ≡ accepted n) (i : ℕ) where
  records-span : Adjoins 0 (length s) (map extent_at (places (trace rules s)))
  records-span = adjoin_extents 0 (length s) (places (trace rules s)) (places-cut rules s n e).adjoin

  -- past the end it is 16
  pub byte_past : length s ≤ i → part_of_byte rules s i ≡ number 16
  unfolding part_of_byte record_holding
  byte_past past = rw (e, held_none extent_at (places (trace rules s)) 0 (length s) i records-span past)

  place-of : (m : ℕ) (l : Located) → Nth (places (trace rules s)) m l → place rules s m ≡ answered l
  unfolding place
  place-of m l there = rw e (nth-found (places (trace rules s)) m there)

  numbered-so : (m : ℕ) (l : Located) → Nth (places (trace rules s)) m l → l.number ≡ m
  unfolding trace
  numbered-so m l there = omega (arith, nth_number (trace rules s) 0 m l (walk-numbered rules s 0 beginning) there)

  -- a part that holds the byte is part j of record m, where only these hold it
  only_one : (m j : ℕ) (l : Located) (q : PlacedPart) → OnlyIn extent_at (places (trace rules s)) i m l →
      OnlyIn (λ (y : PlacedPart). y.place) (parts_at s l) (i - l.start) j q → (a b : ℕ) (x : Located) (y : PlacedPart) → Belongs rules s i a b x y → (a ≡ m) × (b ≡ j)
  only_one m j l q o u a b x y at =
      let there = place-nth rules s a at.which in
      let record-too : a ≡ m = o.only a x there (to_record s x b y i (parts-span s x (nth_inside rules s a x there)) at.part at.inside) in
      let here : place rules s a ≡ answered l = rw record-too (place-of m l o.there) in
      let same : x ≡ l = cc (at.which, here) in (
        record-too,
        u.only b y (subst (λ (z : Located). Nth (parts_at s z) b y) same at.part)
            (to-message l y i (subst (λ (z : Located). holds (stream_place z y) i ≡ true) same at.inside)),
      )

  pub byte-named : i < length s → NamedOnce rules s i
  unfolding part_of_byte record_holding part_holding
  byte-named inside =
      let r = held-once extent_at (places (trace rules s)) 0 (length s) i records-span (omega arith) inside in
      let m = r.0 in
      let l = r.1.0 in
      let o = r.1.1.1 in
      let lies_in = nth_inside rules s m l o.there in
      let within = held (extent_at l) i o.inside in
      let k = l.kind in
      let h = fixed_part k (part_at s l) in
      let x = held-once (λ (y : PlacedPart). y.place) (parts_at s l) 0 l.size (i - l.start) (parts-span s l lies_in) (omega arith) (omega (arith, within)) in
      let q = x.1.0 in
      let u = x.1.1.1 in
      let t = always_told k h (i - l.start) x.0 q u.there u.inside in
      let same-part = told_same k (i - l.start) q t.1 in
      let which = place-of m l o.there in
      record {
        n = m;
        j = x.0;
        l = l;
        q = q;
        belongs = record { which = which; part = u.there; inside = to-stream l q i within.0 u.inside };
        numbered = numbered-so m l o.there;
        only = only_one m x.0 l q o u;
        byte = record { which = l; part = t.0.part; place = span (l.start + t.0.place.offset) t.0.place.size; inner = t.0.inner };
        answer = rw (e, r.1.1.0, x.1.1.0, t.1);
        told = record { which = refl; part = same-part.0; place = ap (λ (p : Extent). span (l.start + p.offset) p.size) same-part.1 };
        element = λ is. header-inner k (i - l.start) q t.0 is t.1;
        shown = every_nth (ViewOfPart rules s m l) (parts_at s l) x.0 q (each-part-shown rules s m which).there u.there;
      }

-- an element that is told of a header's byte is one that a field question answers
pub element-field : (rules : Rules) (s : List ℕ) (n : ℕ) {l : Located} → place rules s n ≡ answered l → (i : ℕ) {e : ElementPlace} →
    header_byte_of l.kind i ≡ answered (Some e) → (v : FieldValue) × (field_of rules s n e.offset ≡ answered v)
unfolding field_of element_of
element-field rules s n {l} p i {e} told =
    let t = element-starts l.kind i told in
    let h = fixed_part l.kind (part_at s l) in
    (value_of t.0 (num (width t.0) h e.offset), rw (p, t.1.0))
