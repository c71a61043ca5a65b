-- The record that holds a byte, found in one walk: what each message that is passed gives of the answer; and that it lies in the stream.
-- Assumes nothing.
use Rattle.std.specs.Prelude.{ℕ, ◌+◌, ◌-◌, ◌≤◌, ◌<◌, ◌≡◌, refl, List, length}
use Rattle.std.proofs.Common.{arith, sym, ap, length-append, length-drop}
use Rattle.mrd_logic.specs.Answer.{Answer, answered, stream, number, unless_refused}
use Rattle.mrd_logic.specs.AnswerLaws.{answered-accepted}
use Rattle.mrd_format.specs.declared.rules.Rules.{Rules}
use Rattle.mrd_format.specs.Message.{fixed_part}
use Rattle.mrd_format.specs.Holding.{holding}
use Rattle.mrd_format.proofs.HoldingLaws.{held, holding-here, holding-later, found-there}
use Rattle.mrd_cursor.specs.declared.cursor.Cursor.{Cursor}
use Rattle.mrd_cursor.specs.Cursors.{beginning}
use Rattle.mrd_stream.specs.Walk.{Trace, trace, verdict, answer, from}
use Rattle.mrd_stream.specs.Places.{Located, located, places}
use Rattle.mrd_stream.specs.StepLaws.{Passes, On, on-start, on-next, kept_next}
use Rattle.mrd_cut.specs.CutPlaces.{part_at}
use Rattle.mrd_cut.proofs.InsideLaws.{nth_inside}
use Rattle.mrd_parts.specs.Sought.{Sized}
use Rattle.mrd_views.specs.ViewLaws.{fixed-sized}
use Rattle.mrd_holding.specs.Held.{Held, part_holding}
use Rattle.mrd_holding.specs.HeldLaws.{held-there}
use Rattle.mrd_part_at.specs.PartAt.{extent_at, record_holding, HoldsByte}

-- the answer that a trace gives
abbrev pub holder_in : ℕ → Trace → Answer Located
holder_in i t = unless_refused (verdict t) (holding extent_at (places t) i)

-- a walk that is at c, and has not passed byte i: the answer from there on is the answer wanted
pub record Seeking (rules : Rules) (i : ℕ) (c : Cursor) (s : List ℕ) : Type 0 where
  pub on : On rules (holder_in i) (record_holding rules s i) c s
  pub before : c.start ≤ i

pub seeking_start : (rules : Rules) (i : ℕ) (s : List ℕ) → Seeking rules i beginning s
unfolding record_holding answer
seeking_start rules i s = record { on = on-start rules (holder_in i) s; before = omega arith }

-- a step that hands out l and goes on from c to d
module _ {rules : Rules} {i : ℕ} {c d : Cursor} {s : List ℕ} {l : Located} (x : Seeking rules i c s) (p : Passes rules c s l d) where
  -- a message ends where the next one starts
  ends : c.start + length p.bytes ≡ d.start
  ends = omega (arith, simp (length-append, length-drop) at (ap length p.split), p.ahead, p.within)

  -- the byte lies further on
  pub seek-on : d.start ≤ i → Seeking rules i d s
  seek-on far =
      let past : c.start + length p.bytes ≤ i = omega (arith, ends) in
      record {
        on = on-next rules (holder_in i) s (holder_in i) x.on p
            (λ r. ap (unless_refused (verdict r)) (holding-later extent_at (located c p.kind p.bytes) (places r) i past));
        before = far;
      }

  -- the byte lies in this message: what follows only tells whether the stream is refused
  pub seek_found : i < d.start → unless_refused (verdict (from rules d s)) (answered l) ≡ record_holding rules s i
  seek_found near =
      let here : i < c.start + length p.bytes = omega (arith, ends) in
      rw p.place
      (kept_next rules (holder_in i) s (λ (r : Trace). unless_refused (verdict r) (answered (located c p.kind p.bytes))) x.on.kept p
      (λ r. ap (unless_refused (verdict r)) (holding-here extent_at (located c p.kind p.bytes) (places r) i x.before here)))

-- an answered record lies in s and holds byte i
abbrev pub HoldsIn : List ℕ → ℕ → Answer Located → Type 0
HoldsIn s i (answered l) = HoldsByte s i l
HoldsIn s i (stream f r b) = Unit {0}
HoldsIn s i (number n) = Unit {0}

pub holder_holds : (rules : Rules) (s : List ℕ) (i : ℕ) → HoldsIn s i (record_holding rules s i)
unfolding record_holding
holder_holds rules s i = by (record_holding rules s i) refl
  where
    by : (a : Answer Located) → record_holding rules s i ≡ a → HoldsIn s i a
    by (answered l) e =
        let f = found-there extent_at (places (trace rules s)) i (answered-accepted (answer rules s) (holding extent_at (places (trace rules s)) i) e) in
        let h = held (extent_at l) i f.1.1 in
        record { lies = (rules, nth_inside rules s f.0 l f.1.0); from = h.0; to = h.1 }
    by (stream f r b) e = tt
    by (number n) e = tt

-- what is asked of a record that holds byte i
module _ (s : List ℕ) (i : ℕ) (l : Located) (x : HoldsByte s i l) where
  -- its part holds the byte
  pub part-asked : Sized l.kind (fixed_part l.kind (part_at s l)) l.size × (i - l.start < l.size)
  part-asked = (fixed-sized s l x.lies.1, omega (arith, x.from, x.to))

  -- so it starts no later
  pub part-starts : {q : Held} → answered q ≡ part_holding l.kind (fixed_part l.kind (part_at s l)) (i - l.start) → l.start + q.place.offset ≤ i
  part-starts {q} e =
      let there = held-there l.kind (fixed_part l.kind (part_at s l)) (i - l.start) (sym e) in
      omega (arith, (held q.place (i - l.start) there.1.1).0, x.from)
