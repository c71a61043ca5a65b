-- What a step tells of the walk: it hands out the next message of the trace and goes past it, or it gives the answer that ends the trace.
-- Assumes nothing.
use Rattle.std.specs.Prelude.{ℕ, ◌+◌, ◌-◌, ◌≤◌, ◌<◌, ◌≡◌, List, [], ◌∷◌, ◌++◌, length, take, drop}
use Rattle.std.proofs.Common.{arith, sym, ap, ◌∙◌, length-drop, take-append-drop, drop-drop}
use Rattle.std.proofs.Math.Path.{refl}
use Rattle.mrd_format.specs.declared.kind.Kind.{Kind}
use Rattle.mrd_format.specs.declared.rules.Rules.{Rules}
use Rattle.mrd_format.specs.Message.{fixed_part}
use Rattle.mrd_format.specs.WellFormed.{WellFormed}
use Rattle.mrd_format.specs.MessageLaws.{size-least}
use Rattle.mrd_cursor.specs.declared.cursor.Cursor.{Cursor}
use Rattle.mrd_judge.specs.Judge.{Judged, faulty, whole, judge}
use Rattle.mrd_cursor.specs.Cursors.{max_messages, after, beginning}
use Rattle.mrd_logic.specs.Answer.{Verdict}
use Rattle.mrd_stream.specs.Walk.{Trace, message, done, walk, trace, from}
use Rattle.mrd_stream.specs.WalkLaws.{walk_end, walk-fault, walk-next}
use Rattle.mrd_judge.specs.WholeLaws.{WholeAt, judge-whole, well_formed}
use Rattle.mrd_stream.specs.Places.{Located, located, yields, over, step_by, step_at, step}

-- a step from c over s that hands out l goes to d: it passes one message of the trace, the well-formed bytes at c
pub record Passes (rules : Rules) (c : Cursor) (s : List ℕ) (l : Located) (d : Cursor) : Type 0 where
  pub kind : Kind
  pub bytes : List ℕ
  pub trace : from rules c s ≡ message c kind bytes (from rules d s)
  pub place : l ≡ located c kind bytes
  pub ahead : c.start < d.start
  pub within : d.start ≤ length s
  pub counted : d.number ≡ c.number + 1
  pub few : c.number < max_messages
  pub well : WellFormed rules bytes
  pub known : well.kind ≡ kind
  pub split : drop c.start s ≡ bytes ++ drop d.start s

-- a step hands out a message or ends the walk, and not both
pub over-not-yields : {l : Located} {d : Cursor} {v : Verdict} → over v ≡ yields l d → ⊥
over-not-yields e = let z : ◌≡◌ {A = ℕ} 0 1 = cc in omega arith

pub step-over : (rules : Rules) (c : Cursor) (s : List ℕ) {v : Verdict} → step rules c s ≡ over v → from rules c s ≡ done v
unfolding step step_at
step-over rules c s {v} e = at (drop c.start s) e
  where
    judged : (b : ℕ) (t : List ℕ) (j : Judged) → judge rules c (b ∷ t) ≡ j → step_by j c (b ∷ t) ≡ over v → walk rules (b ∷ t) 0 c ≡ done v
    judged b t (faulty f) q e = walk-fault rules b t c q ∙ ap done (cc)
    judged b t (whole k z) q e = absurd (over-not-yields (sym e))

    at : (t : List ℕ) → step_at rules c t ≡ over v → walk rules t 0 c ≡ done v
    at [] e = walk_end rules c ∙ ap done (cc)
    at (b ∷ t) e = judged b t (judge rules c (b ∷ t)) refl e

pub step-yields : (rules : Rules) (c : Cursor) (s : List ℕ) {l : Located} {d : Cursor} → step rules c s ≡ yields l d → Passes rules c s l d
unfolding step step_at
step-yields rules c s {l} {d} e = at (drop c.start s) refl e
  where
    judged : (b : ℕ) (t : List ℕ) → drop c.start s ≡ b ∷ t → (j : Judged) → judge rules c (b ∷ t) ≡ j → step_by j c (b ∷ t) ≡ yields l d →
        Passes rules c s l d
    judged b t here (faulty f) q e = absurd (over-not-yields e)
    judged b t here (whole k z) q e =
        let w : WholeAt rules c (b ∷ t) k z = judge-whole rules c (b ∷ t) q in
        let least = size-least k (fixed_part k (b ∷ t)) in
        let some : 0 < z = omega (arith, least, w.size) in
        let room : length s ≡ length (b ∷ t) + c.start = omega (arith, length-drop c.start s, ap length here) in
        let next : d ≡ after c k z = cc in
        let rest : drop z (b ∷ t) ≡ drop (c.start + z) s = rw (← here) (drop-drop z c.start s) in
        record {
          kind = k;
          bytes = take z (b ∷ t);
          trace = rw (here, next, walk-next rules b t c q some, rest);
          place = cc;
          ahead = rw next (omega arith);
          within = rw next (omega (arith, w.fits));
          counted = rw next;
          few = w.counted;
          well = well_formed c (b ∷ t) w;
          known = refl;
          split = rw (next, ← rest) (here ∙ sym (take-append-drop z (b ∷ t)));
        }

    at : (t : List ℕ) → drop c.start s ≡ t → step_at rules c t ≡ yields l d → Passes rules c s l d
    at [] here e = absurd (over-not-yields e)
    at (b ∷ t) here e = judged b t here (judge rules c (b ∷ t)) refl e

-- a walk over s that is at c, and of whose trace f is to be found: f of what is left is the answer wanted
pub record On (rules : Rules) {A : Type 0} (f : Trace → A) (wanted : A) (c : Cursor) (s : List ℕ) : Type 0 where
  pub within : c.start ≤ length s
  pub kept : f (from rules c s) ≡ wanted

module _ (rules : Rules) {A : Type 0} (f : Trace → A) (s : List ℕ) where
  -- past a message, where what f finds from there on is what g finds in the rest; from any cursor
  pub kept_next : {wanted : A} {c d : Cursor} {l : Located} (g : Trace → A) → f (from rules c s) ≡ wanted → (p : Passes rules c s l d) →
      ((r : Trace) → f (message c p.kind p.bytes r) ≡ g r) → g (from rules d s) ≡ wanted
  kept_next {d = d} g o p e = sym (e (from rules d s)) ∙ sym (ap f p.trace) ∙ o

  -- at the end
  pub kept-end : (c : Cursor) {wanted : A} {v : Verdict} → f (from rules c s) ≡ wanted → step rules c s ≡ over v → f (done v) ≡ wanted
  kept-end c o e = sym (ap f (step-over rules c s e)) ∙ o

  pub on-start : On rules f (f (trace rules s)) beginning s
  unfolding trace
  on-start = record { within = omega arith; kept = refl }

  pub on-next : {wanted : A} {c d : Cursor} {l : Located} (g : Trace → A) → On rules f wanted c s → (p : Passes rules c s l d) →
      ((r : Trace) → f (message c p.kind p.bytes r) ≡ g r) → On rules g wanted d s
  on-next g o p e = record { within = p.within; kept = kept_next g o.kept p e }

  pub on-end : {wanted : A} {c : Cursor} {v : Verdict} → On rules f wanted c s → step rules c s ≡ over v → f (done v) ≡ wanted
  on-end {c = c} o e = kept-end c o.kept e

-- a step goes forward
pub on_less : {rules : Rules} {c d : Cursor} {l : Located} (s : List ℕ) → Passes rules c s l d → length s - d.start < length s - c.start
on_less s p = omega (arith, p.ahead, p.within)
