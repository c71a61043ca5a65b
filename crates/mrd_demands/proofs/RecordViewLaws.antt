-- The views of a record of a stream are the parts of that record, and the record is the record list's.
-- Assumes nothing.
use Rattle.std.specs.Prelude.{ℕ, ◌+◌, ◌*◌, ◌≤◌, ◌≡◌, refl, List, [], ◌∷◌, ◌++◌, map, length, take, drop, false}
use Rattle.std.proofs.Common.{arith, sym, ap, ap₂, ◌∙◌, append_assoc, length-append, drop-drop, drop_at}
use Rattle.std.proofs.Math.Seq.{take-append_seam}
use Rattle.mrd_logic.specs.Every.{every_map}
use Rattle.mrd_logic.specs.Lists.{Nth}
use Rattle.mrd_logic.specs.ListLaws.{nth-map}
use Rattle.mrd_logic.specs.AnswerLaws.{answered-not-number}
use Rattle.mrd_logic.specs.Answer.{answered}
use Rattle.mrd_numbers.specs.Laws.{part-take}
use Rattle.mrd_format.specs.Message.{fixed_part, size_of}
use Rattle.mrd_format.specs.Parts as part
use Rattle.mrd_format.specs.Parts.{Part, Reach, lies, lacks, bytes_in}
use Rattle.mrd_format.specs.Content.{extent_of, contents_of, Record, record_of}
use Rattle.mrd_format.proofs.ReachLaws.{part-within, channel_is_share}
use Rattle.mrd_format.specs.PartSearch.{FoundAt}
use Rattle.mrd_format.proofs.ExtentLaws.{parts-found, others-lacking}
use Rattle.mrd_parts.specs.declared.parts.Part as parts
use Rattle.mrd_parts.specs.declared.parts.Part.TheVariants as asked
use Rattle.mrd_parts.specs.Sought.{part_meaning}
use Rattle.mrd_cursor.specs.declared.cursor.Cursor.{Cursor}
use Rattle.mrd_stream.specs.Walk.{Trace, trace}
use Rattle.mrd_stream.specs.Places.{Located, located, places, place}
use Rattle.mrd_demands.specs.Records.{records_of, records}
use Rattle.mrd_cut.specs.Walked.{Walks}
use Rattle.mrd_cut.specs.Walked.{ends, faults, meets}
use Rattle.mrd_cut.proofs.WalkedLaws.{walks}
use Rattle.mrd_cut.specs.CutPlaces.{part_at}
use Rattle.mrd_cut.specs.Inside.{Inside}
use Rattle.mrd_cut.proofs.InsideLaws.{place-nth, place_inside}
use Rattle.mrd_record.specs.RecordLaws.{fixed-long}
use Rattle.mrd_views.specs.declared.views.Span.{Span}
use Rattle.mrd_views.specs.Views.{span, shown_at, view_of, shown}
use Rattle.mrd_part_at.specs.PartAt.{parts_at}
use Rattle.mrd_format.specs.declared.rules.Rules.{Rules}
use Rattle.mrd_demands.specs.RecordViews.{ViewsOf, ViewOfPart, EachPart}

-- the record that lies at a place
abbrev record_at : List ℕ → Located → Record
record_at s l = record_of l.kind (part_at s l)

records_placed : {rules : Rules} {c : Cursor} {s : List ℕ} {r : Trace} → Walks rules c s r → (before : List ℕ) → length before ≡ c.start →
    records_of r ≡ map (record_at (before ++ s)) (places r)
records_placed ends before h = refl
records_placed (faults e) before h = refl
records_placed (meets {c} {m} {rest} {r} w a n v) before h =
    let here : part_at (before ++ (m ++ rest)) (located c w.kind m) ≡ m = rw (drop_at before (m ++ rest) c.start h, take-append_seam) in
    let far : length (before ++ m) ≡ c.start + length m = simp (length-append, h) in
    let later : records_of r ≡ map (record_at (before ++ (m ++ rest))) (places r) = rw append_assoc at (records_placed v (before ++ m) far) in
    ap₂ (λ (x : Record) (xs : List Record). x ∷ xs) (ap (record_of w.kind) (sym here)) later

-- the record at the place of record n is the record list's
place_record : (rules : Rules) (s : List ℕ) (n : ℕ) {l : Located} → place rules s n ≡ answered l → Nth (records rules s) n (record_at s l)
unfolding records
place_record rules s n {l} e = rw (records_placed (walks rules s) [] refl) (nth-map (record_at s) (places (trace rules s)) n l (place-nth rules s n e))

-- what a view shows of a record that lies in s are the bytes of that part of its message
module _ {rules : Rules} (s : List ℕ) (l : Located) (i : Inside rules s l) (p : Part) where
  abbrev m : List ℕ
  m = part_at s l

  reach-shown : (r : Reach) → extent_of p l.kind (fixed_part l.kind m) ≡ r → shown (shown_at r l.start) s ≡ bytes_in m r
  reach-shown lacks q = refl
  reach-shown (lies e) q =
      let size : size_of l.kind (fixed_part l.kind m) ≡ l.size = rw (← i.kind) (i.well.whole ∙ i.long) in
      let within : e.offset + e.size ≤ l.size = omega (arith, part-within l.kind (fixed_part l.kind m) (fixed-long s l i) p q, size) in
      rw (part-take e.size l.size (drop l.start s) e.offset within, drop-drop)

  part-shown : shown (shown_at (extent_of p l.kind (fixed_part l.kind m)) l.start) s ≡ bytes_in m (extent_of p l.kind (fixed_part l.kind m))
  part-shown = reach-shown (extent_of p l.kind (fixed_part l.kind m)) refl

-- one channel
channel-shown : {rules : Rules} (s : List ℕ) (l : Located) → Inside rules s l → (c : ℕ) {x : Span} →
    shown_at (extent_of (part.channel c) l.kind (fixed_part l.kind (part_at s l))) l.start ≡ answered x →
    shown (answered x) s ≡ take x.length (drop (c * x.length) (record_at s l).parts.samples)
channel-shown s l i c {x} q = by (extent_of (part.channel c) l.kind (fixed_part l.kind (part_at s l))) refl q
  where
    by : (r : Reach) → extent_of (part.channel c) l.kind (fixed_part l.kind (part_at s l)) ≡ r → shown_at r l.start ≡ answered x →
        shown (answered x) s ≡ take x.length (drop (c * x.length) (record_at s l).parts.samples)
    by lacks e q = absurd (answered-not-number (sym q))
    by (lies d) e q =
        let y : span (l.start + d.offset) d.size ≡ x = cc in
        rw (← y) (reach-shown s l i (part.channel c) (lies d) e ∙ channel_is_share l.kind (part_at s l) c e)

-- each view of a record is that part of it
pub views_are_parts : (rules : Rules) (s : List ℕ) (n : ℕ) {l : Located} → place rules s n ≡ answered l → (r : Record) × (Nth (records rules s) n r × ViewsOf rules s n r)
unfolding view_of record_of contents_of
views_are_parts rules s n {l} e =
    let i = place_inside rules s n e in (
      record_at s l,
      (
        place_record rules s n e,
        record {
          name = rw e (part-shown s l i part.name);
          text = rw e (part-shown s l i part.text);
          trajectory = rw e (part-shown s l i part.trajectory);
          attributes = rw e (part-shown s l i part.attributes);
          pixels = rw e (part-shown s l i part.pixels);
          waveform = rw e (part-shown s l i part.waveform);
          channel = λ c q. channel-shown s l i c (rw e at q);
        },
      ),
    )

-- no view is asked for the samples of all channels
one-part : (p : parts.Part) → part.same (part_meaning p) part.samples ≡ false
one-part asked.Name = refl
one-part asked.Text = refl
one-part asked.Attributes = refl
one-part asked.Trajectory = refl
one-part (asked.Channel c) = refl
one-part asked.Pixels = refl
one-part asked.Waveform = refl

pub each-part-shown : (rules : Rules) (s : List ℕ) (n : ℕ) {l : Located} → place rules s n ≡ answered l → EachPart rules s n l
unfolding view_of
each-part-shown rules s n {l} e =
    let k = l.kind in
    let h = fixed_part k (part_at s l) in
    record {
      there = every_map (FoundAt k h) (ViewOfPart rules s n l) (λ q f p named. rw (e, named, f)) (parts_at s l) (parts-found k h);
      else-17 = λ p none. rw (e, others-lacking (part_meaning p) h (one-part p) k none);
    }
