-- What a walk meets, said of the bytes: well-formed messages in the order that the phases allow, up to the end of the stream or to the first fault.
-- The theorems on places, acceptance, refusal and steps follow from this.
-- Assumes nothing.
use Rattle.std.specs.Prelude.{ℕ, zero, suc, ◌+◌, ◌≤◌, ◌<◌, ◌≡◌, refl, true, List, [], ◌∷◌, ◌++◌, length, take, drop}
use Rattle.std.proofs.Common.{add-zero, zero-add, le_refl, not-suc-le-zero, arith, sym, ap, ◌∙◌, subst, append_assoc, length-append, length-drop, take-append-drop}
use Rattle.std.proofs.Math.Seq.{take-append_seam, drop-append_seam}
use Rattle.mrd_format.specs.Message.{fixed_part}
use Rattle.mrd_format.specs.WellFormed.{WellFormed}
use Rattle.mrd_format.specs.MessageLaws.{size-least}
use Rattle.mrd_cursor.specs.declared.cursor.Cursor.{Cursor}
use Rattle.mrd_cursor.specs.Order.{allowed}
use Rattle.mrd_cursor.specs.Cursors.{max_messages, after, beginning}
use Rattle.mrd_judge.specs.Judge.{Judged, faulty, whole, judge}
use Rattle.mrd_logic.specs.Answer.{Verdict, accepted, refused}
use Rattle.mrd_stream.specs.Walk.{ended, Trace, message, done, walk, trace, verdict, answer}
use Rattle.mrd_stream.specs.WalkLaws.{walk_end, walk-fault, walk-next}
use Rattle.mrd_logic.specs.Every.{Every}
use Rattle.mrd_logic.specs.Joined.{joined}
use Rattle.mrd_cut.specs.Cut.{kinds_in, InOrder}
use Rattle.mrd_cut.specs.OrderRule.{phase_from, phase_after, AllowedFrom}
use Rattle.mrd_cut.proofs.OrderRuleLaws.{in_order_iff}
use Rattle.mrd_cut.specs.Unique.{not-empty}
use Rattle.mrd_judge.specs.WholeLaws.{WholeAt, judge-whole, judge-faulty, well_formed, well-judge}
use Rattle.mrd_format.specs.declared.rules.Rules.{Rules}
use Rattle.mrd_cut.specs.Walked.{Walks, ends, faults, meets, pieces_of, well_met, cursor_past, Stops, Walked, cursor_after, Met}

-- at a well-formed message that the order and the count allow, the walk meets it and goes on after it
pub walk-well : {rules : Rules} (c : Cursor) (m rest : List ℕ) (w : WellFormed rules m) → allowed w.kind c.phase ≡ true → c.number < max_messages →
    walk rules (m ++ rest) 0 c ≡ message c w.kind m (walk rules rest 0 (after c w.kind (length m)))
walk-well {rules} c [] rest w a n = absurd (not-empty [] [] w refl)
walk-well {rules} c (b ∷ m) rest w a n =
    rw (walk-next rules b (m ++ rest) c (well-judge c (b ∷ m) rest w a n) (omega arith), take-append_seam m rest, drop-append_seam m rest)

-- every walk is one of these; n bounds the bytes left
walks-within : (rules : Rules) (n : ℕ) (s : List ℕ) (c : Cursor) → length s ≤ n → Walks rules c s (walk rules s 0 c)
walks-within rules zero [] c h = rw walk_end ends
walks-within rules (suc n) [] c h = rw walk_end ends
walks-within rules zero (b ∷ t) c h = absurd (not-suc-le-zero h)
walks-within rules (suc n) (b ∷ t) c h = by-judgement (λ s d l. walks-within rules n s d l) (judge rules c (b ∷ t)) refl
  where
    by-judgement : ((s : List ℕ) (d : Cursor) → length s ≤ n → Walks rules d s (walk rules s 0 d)) → (j : Judged) → judge rules c (b ∷ t) ≡ j →
        Walks rules c (b ∷ t) (walk rules (b ∷ t) 0 c)
    by-judgement shorter (faulty f) e = rw (walk-fault rules b t c e) (faults e)
    by-judgement shorter (whole k z) e =
        let here : WholeAt rules c (b ∷ t) k z = judge-whole rules c (b ∷ t) e in
        let w : WellFormed rules (take z (b ∷ t)) = well_formed c (b ∷ t) here in
        let less : length (drop z (b ∷ t)) ≤ n = simp length-drop (omega (arith, size-least k (fixed_part k (b ∷ t)))) in
        let later = shorter (drop z (b ∷ t)) (after c k (length (take z (b ∷ t)))) less in
        let next = walk-well c (take z (b ∷ t)) (drop z (b ∷ t)) w here.ordered here.counted in
        let met = rw (← next) at (meets w here.ordered here.counted later) in
        subst (λ (s : List ℕ). Walks rules c s (walk rules s 0 c)) (take-append-drop z (b ∷ t)) met

-- the walk of a stream
pub walks : (rules : Rules) (s : List ℕ) → Walks rules beginning s (trace rules s)
unfolding trace
walks rules s = walks-within rules (length s) s beginning (le_refl (length s))

-- an answer is one or the other
pub refused-not-accepted : {f r b n : ℕ} → refused f r b ≡ accepted n → ⊥
refused-not-accepted e = let z : ◌≡◌ {A = ℕ} 0 1 = cc in omega arith

-- after no message the walk stands where it stood; after one more, where the next message is due
at_none : (rules : Rules) (c : Cursor) → cursor_past rules c [] tt ≡ c
at_none rules c = λ i. record { number = add-zero c.number i; start = add-zero c.start i; phase = c.phase }

at_next : (rules : Rules) (c : Cursor) (m : List ℕ) (ms : List (List ℕ)) (w : Every (WellFormed rules) (m ∷ ms)) →
    cursor_past rules (after c w.0.kind (length m)) ms w.1 ≡ cursor_past rules c (m ∷ ms) w
at_next rules c m ms w =
    let n : c.number + 1 + length ms ≡ c.number + suc (length ms) = omega arith in
    let s : c.start + length m + length (joined ms) ≡ c.start + length (m ++ joined ms) = simp length-append (omega arith) in
    λ i. record { number = n i; start = s i; phase = phase_from c.phase (kinds_in rules (m ∷ ms) w) }

-- a walk that stops at once
stopped : (rules : Rules) (c : Cursor) (t : List ℕ) (v : Verdict) → Stops rules c t v → Walked rules c t (done v)
stopped rules c t v h =
    record {
      well = tt;
      rest = t;
      whole = refl;
      ordered = tt;
      counted = λ h. omega arith;
      stops = subst (λ (d : Cursor). Stops rules d t v) (sym (at_none rules c)) h;
    }

-- this holds of every walk
pub walked : {rules : Rules} {c : Cursor} {s : List ℕ} {r : Trace} → Walks rules c s r → Walked rules c s r
walked {rules} (ends {c}) = stopped rules c [] (ended c) refl
walked {rules} (faults {c} {b} {t} {f} e) = stopped rules c (b ∷ t) (refused f c.number c.start) (f, judge-faulty rules c (b ∷ t) e, refl)
walked {rules} (meets {c} {m} {rest} {r} w a n v) =
    let later = walked v in
    let all : Every (WellFormed rules) (m ∷ pieces_of r) = (w, later.well) in
    record {
      well = well_met c w.kind m r w later.well;
      rest = later.rest;
      whole = append_assoc m (joined (pieces_of r)) later.rest ∙ ap (λ (l : List ℕ). m ++ l) later.whole;
      ordered = (a, later.ordered);
      counted = λ h. omega (arith, later.counted (omega arith));
      stops = rw (← at_next rules c m (pieces_of r) all) later.stops;
    }

-- from the beginning on
pub at-beginning : (rules : Rules) (ms : List (List ℕ)) (w : Every (WellFormed rules) ms) → cursor_past rules beginning ms w ≡ cursor_after rules ms w
at-beginning rules ms w =
    λ i. record { number = zero-add (length ms) i; start = zero-add (length (joined ms)) i; phase = phase_after (kinds_in rules ms w) }

-- this holds of every stream
pub met : (rules : Rules) (s : List ℕ) → Met rules s
unfolding answer
met rules s =
    let r = walked (walks rules s) in
    let ms = pieces_of (trace rules s) in
    record {
      well = r.well;
      rest = r.rest;
      whole = r.whole;
      ordered = (in_order_iff (kinds_in rules ms r.well)).0 r.ordered;
      few = omega (arith, r.counted (omega arith));
      stops = subst (λ (d : Cursor). Stops rules d r.rest (verdict (trace rules s))) (at-beginning rules ms r.well) r.stops;
    }

-- well-formed messages, allowed and not too many, are walked over, whatever follows them
pub walk-pieces : (rules : Rules) (ms : List (List ℕ)) (w : Every (WellFormed rules) ms) (c : Cursor) (rest : List ℕ) → AllowedFrom c.phase (kinds_in rules ms w) →
    c.number + length ms ≤ max_messages → verdict (walk rules (joined ms ++ rest) 0 c) ≡ verdict (walk rules rest 0 (cursor_past rules c ms w))
walk-pieces rules [] w c rest a n = ap (λ (d : Cursor). verdict (walk rules rest 0 d)) (sym (at_none rules c))
walk-pieces rules (m ∷ ms) w c rest a n =
    rw (append_assoc, walk-well c m (joined ms ++ rest) w.0 a.0 (omega arith), ← at_next rules c m ms w)
    (walk-pieces rules ms w.1 (after c w.0.kind (length m)) rest a.1 (omega arith))

-- the answer about well-formed messages in order, not too many, and what follows them: that of the walk from there on
pub answer-after : (rules : Rules) (ms : List (List ℕ)) (w : Every (WellFormed rules) ms) (rest : List ℕ) → InOrder (kinds_in rules ms w) → length ms ≤ max_messages →
    answer rules (joined ms ++ rest) ≡ verdict (walk rules rest 0 (cursor_after rules ms w))
unfolding answer trace
answer-after rules ms w rest o n =
    walk-pieces rules ms w beginning rest ((in_order_iff (kinds_in rules ms w)).1 o) (omega arith) ∙
    ap (λ (c : Cursor). verdict (walk rules rest 0 c)) (at-beginning rules ms w)
