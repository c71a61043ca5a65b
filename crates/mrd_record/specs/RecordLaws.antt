-- An answered place lies in its stream, and so does its fixed part; the record at a cursor that a walk comes to is that of its number.
-- Assumes nothing.
use Rattle.std.specs.Prelude.{ℕ, zero, suc, ◌+◌, ◌≤◌, ◌≡◌, refl, List, take, drop}
use Rattle.std.proofs.Common.{arith, ◌∙◌, subst, length-append, drop-drop}
use Rattle.std.proofs.Math.Path.{sym, ap}
use Rattle.std.proofs.Math.ListN.{length, length-drop}
use Rattle.std.proofs.Math.Seq.{take-append_seam, length-take-le}
use Rattle.mrd_format.specs.Kinds.{fixed_size}
use Rattle.mrd_format.specs.Message.{fixed_part}
use Rattle.mrd_format.specs.MessageLaws.{fixed-take, well-least}
use Rattle.mrd_cursor.specs.declared.cursor.Cursor.{Cursor}
use Rattle.mrd_logic.specs.Answer.{Verdict, accepted, refused, Answer, answered, stream, number, unless_refused}
use Rattle.mrd_cursor.specs.Cursors.{beginning}
use Rattle.mrd_stream.specs.Walk.{Trace, message, done, trace, verdict, answer}
use Rattle.mrd_stream.specs.Places.{Located, located, places, nth, place, Stepped, yields, over, step}
use Rattle.mrd_stream.specs.StepLaws.{Passes, over-not-yields, step-yields}
use Rattle.mrd_cut.specs.CutPlaces.{part_at}
use Rattle.mrd_cut.specs.Inside.{Inside}
use Rattle.mrd_cut.proofs.InsideLaws.{place_inside}
use Rattle.mrd_cut.specs.Steps.{Yields}
use Rattle.mrd_cut.proofs.StepsLaws.{steps_follow}
use Rattle.mrd_record.specs.AtCursor.{place_by, place_at, Lies, LiesIn, Reached}
use Rattle.mrd_format.specs.declared.rules.Rules.{Rules}

pub place-lies : (rules : Rules) (s : List ℕ) (n : ℕ) → LiesIn s (place rules s n)
place-lies rules s n = by (place rules s n) refl
  where
    by : (a : Answer Located) → place rules s n ≡ a → LiesIn s a
    by (answered l) e = (rules, place_inside rules s n e)
    by (stream f r b) e = tt
    by (number k) e = tt

-- the bytes that a step passes are a well-formed message of the answered kind
passes-inside : {rules : Rules} {c d : Cursor} {s : List ℕ} {l : Located} → Passes rules c s l d → Inside rules s l
passes-inside {c} {d} {s} {l} p =
    let here : part_at s (located c p.kind p.bytes) ≡ p.bytes = rw p.split (take-append_seam p.bytes (drop d.start s)) in
    let size = simp (length-append, length-drop) at (ap length p.split) in
    rw p.place
    (record {
      well = rw here p.well;
      kind = p.known;
      numbers = rw here;
      long = rw here;
      fits = omega (arith, size, p.ahead, p.within);
    })

pub at_lies : (rules : Rules) (c : Cursor) (s : List ℕ) → LiesIn s (place_at rules c s)
unfolding place_at
at_lies rules c s = by (step rules c s) refl
  where
    by : (x : Stepped) → step rules c s ≡ x → LiesIn s (place_by x)
    by (yields l d) e = (rules, passes-inside (step-yields rules c s e))
    by (over (accepted n)) e = tt
    by (over (refused f r b)) e = tt

-- so a record whose place is answered lies in s
pub placed_lies : (rules : Rules) (n : ℕ) {s : List ℕ} {l : Located} → answered l ≡ place rules s n → Lies s l
placed_lies rules n {s} e = rw (← e) at (place-lies rules s n)

pub due_lies : (rules : Rules) (c : Cursor) {s : List ℕ} {l : Located} → answered l ≡ place_at rules c s → Lies s l
due_lies rules c {s} e = rw (← e) at (at_lies rules c s)

reached-place : (rules : Rules) (s : List ℕ) (c d : Cursor) (n : ℕ) (r : Trace) {k : ℕ} → Yields rules s c r → Reached rules s c n d → verdict r ≡ accepted k →
    place_at rules d s ≡ nth (places r) n
unfolding place_at
reached-place rules s c d zero (message b k m r) h e a =
    ap (λ (x : Cursor). place_by (step rules x s)) (sym e) ∙ ap place_by h.1.1 ∙ ap (λ (x : Cursor). answered (located x k m)) (sym h.0)
reached-place rules s c d zero (done v) h e a =
    ap (λ (x : Cursor). place_by (step rules x s)) (sym e) ∙ ap place_by h ∙ ap (λ (v : Verdict). place_by (over v)) a
reached-place rules s c d (suc n) (message b k m r) h e a =
    let next : h.1.0 ≡ e.1.0 = same_next (sym h.1.1 ∙ e.1.1.0) in
    reached-place rules s e.1.0 d n r (subst (λ (x : Cursor). Yields rules s x r) next h.1.2) e.1.1.1 a
  where
    same_next : {l m : Located} {x y : Cursor} → yields l x ≡ yields m y → x ≡ y
    same_next e = cc
reached-place rules s c d (suc n) (done v) h e a = absurd (over-not-yields (sym h ∙ e.1.1.0))

-- the record where a walk over an accepted stream stands after n steps is record n; so its views and fields are those by number
pub walked-place : (rules : Rules) (s : List ℕ) {k : ℕ} → answer rules s ≡ accepted k → (n : ℕ) (d : Cursor) → Reached rules s beginning n d → place_at rules d s ≡ place rules s n
unfolding place answer
walked-place rules s {k} a n d e =
    reached-place rules s beginning d n (trace rules s) (steps_follow rules s) e a ∙ sym (ap (λ (v : Verdict). unless_refused v (nth (places (trace rules s)) n)) a)

-- the fixed part of a record that lies in s
module _ {rules : Rules} (s : List ℕ) (l : Located) (i : Inside rules s l) where
  least : 2 + fixed_size l.kind ≤ l.size
  least = rw (← i.kind, ← i.long) (well-least (part_at s l) i.well)

  -- it has its kind's length
  pub fixed-long : length (fixed_part l.kind (part_at s l)) ≡ fixed_size l.kind
  unfolding fixed_part
  fixed-long =
      let room : fixed_size l.kind ≤ length (drop 2 (part_at s l)) = simp length-drop (omega (arith, least, i.long)) in
      length-take-le (fixed_size l.kind) (drop 2 (part_at s l)) room

  -- it is that part of the stream
  pub fixed-place : take (fixed_size l.kind) (drop (l.start + 2) s) ≡ fixed_part l.kind (part_at s l)
  unfolding fixed_part
  fixed-place =
      let room : l.size ≤ length (drop l.start s) = simp length-drop (omega (arith, i.fits)) in
      ap (take (fixed_size l.kind)) (sym (drop-drop 2 l.start s)) ∙ sym (fixed-take l.kind l.size (drop l.start s) least room)

  pub fixed-fits : l.start + 2 + fixed_size l.kind ≤ length s
  fixed-fits = omega (arith, least, i.fits)
