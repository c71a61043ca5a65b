-- Refusal without the walk: a stream is refused exactly at its first faulty message, by the first check that refuses it; what stands before is
-- well formed and in order.
-- Assumes nothing.
use Rattle.std.specs.Prelude.{ℕ, ◌≡◌, refl, ◌↔◌, Bool, true, false}
use Rattle.std.proofs.Common.{sym}
use Rattle.std.proofs.Math.Path.{ap}
use mathlib.Core.List.{List, [], ◌∷◌}
use Rattle.mrd_format.specs.declared.kind.Kind.{Kind}
use Rattle.mrd_format.specs.declared.rules.Rules.{Rules}
use Rattle.mrd_cursor.specs.declared.cursor.Cursor.{Cursor}
use Rattle.mrd_cursor.specs.Order.{is_closed}
use Rattle.mrd_logic.specs.Answer.{refused}
use Rattle.mrd_stream.specs.Walk.{ended_as, ended, trace, walk, verdict, answer}
use Rattle.mrd_stream.specs.WalkLaws.{walk_end, walk-fault}
use Rattle.mrd_cut.specs.Cut.{kinds_in, close, Lacks}
use Rattle.mrd_cut.proofs.OrderRuleLaws.{open_iff_lacks_close}
use Rattle.mrd_judge.specs.WholeLaws.{faulty-judge}
use Rattle.mrd_cut.specs.Walked.{Stops, pieces_of, cursor_after}
use Rattle.mrd_cut.proofs.WalkedLaws.{refused-not-accepted, met, answer-after}
use Rattle.mrd_cut.specs.Refused.{FaultAt, RefusedAt}

-- the walk stops at c with a refusal exactly where it stands at the fault
module _ (rules : Rules) (c : Cursor) (ks : List Kind) where
  ended-refused : (closed : Bool) {f n b : ℕ} → ended_as closed c ≡ refused f n b →
      (c.number ≡ n) × (c.start ≡ b) × (f ≡ 13) × (closed ≡ false)
  ended-refused true e = absurd (refused-not-accepted (sym e))
  ended-refused false e = (cc, cc, cc, refl)

  stops-fault : (rest : List ℕ) (f n b : ℕ) → (is_closed c.phase ≡ false → Lacks close ks) → Stops rules c rest (refused f n b) →
      (c.number ≡ n) × (c.start ≡ b) × FaultAt rules f c ks rest
  unfolding ended
  stops-fault [] f n b l e = let r = ended-refused (is_closed c.phase) (sym e) in (r.0, r.1, (r.2, l r.3))
  stops-fault (x ∷ t) f n b l s =
      let e : refused f n b ≡ refused s.0 c.number c.start = s.2 in
      let same : f ≡ s.0 = cc in
      (cc, cc, rw same s.1)

  fault-stops : (rest : List ℕ) (f : ℕ) → (Lacks close ks → is_closed c.phase ≡ false) → FaultAt rules f c ks rest →
      verdict (walk rules rest 0 c) ≡ refused f c.number c.start
  unfolding ended
  fault-stops [] f l a = rw (walk_end, l a.1, a.0)
  fault-stops (x ∷ t) f l a = ap verdict (walk-fault rules x t c (faulty-judge rules c (x ∷ t) a))

-- a refused stream has that fault, and nothing before it has one
pub refused_why : (rules : Rules) (s : List ℕ) (f n b : ℕ) → answer rules s ≡ refused f n b → RefusedAt rules s f n b
refused_why rules s f n b e =
    let m = met rules s in
    let ms = pieces_of (trace rules s) in
    let ks = kinds_in rules ms m.well in
    let stop = stops-fault rules (cursor_after rules ms m.well) ks m.rest f n b (open_iff_lacks_close ks m.ordered).0 (rw e at m.stops) in
    record {
      pieces = ms;
      well = m.well;
      rest = m.rest;
      whole = m.whole;
      number = stop.0;
      byte = stop.1;
      few = m.few;
      ordered = m.ordered;
      fault = stop.2;
    }

-- a stream with that fault is refused so
pub fault-refused : {rules : Rules} (s : List ℕ) (f n b : ℕ) → RefusedAt rules s f n b → answer rules s ≡ refused f n b
fault-refused {rules} s f n b r =
    let ks = kinds_in rules r.pieces r.well in
    let c = cursor_after rules r.pieces r.well in
    let stop = fault-stops rules c ks r.rest f (open_iff_lacks_close ks r.ordered).1 r.fault in
    cc (stop, answer-after rules r.pieces r.well r.rest r.ordered r.few)

-- 'the first faulty message decides'
pub refused_iff : (rules : Rules) (s : List ℕ) (f n b : ℕ) → (answer rules s ≡ refused f n b) ↔ RefusedAt rules s f n b
refused_iff rules s f n b = (refused_why rules s f n b, fault-refused s f n b)
