-- Acceptance without the walk: a stream is accepted exactly when it has a cut into at most 1,000,000 messages in order, the last a close;
-- and the count of the answer is the number of those messages.
-- Assumes nothing.
use Rattle.std.specs.Prelude.{ℕ, ◌≡◌, refl, ◌↔◌, Bool, true, false, List, [], ◌∷◌, ◌++◌, length}
use Rattle.std.proofs.Common.{sym, ap, ◌∙◌, append-nil}
use Rattle.mrd_format.specs.declared.rules.Rules.{Rules}
use Rattle.mrd_cursor.specs.declared.cursor.Cursor.{Cursor}
use Rattle.mrd_cursor.specs.Order.{is_closed}
use Rattle.mrd_logic.specs.Answer.{accepted}
use Rattle.mrd_stream.specs.Walk.{ended_as, ended, trace, walk, verdict, answer}
use Rattle.mrd_stream.specs.WalkLaws.{walk_end}
use Rattle.mrd_logic.specs.Joined.{joined}
use Rattle.mrd_cut.specs.Cut.{kinds_in}
use Rattle.mrd_cut.specs.OrderRule.{phase_after}
use Rattle.mrd_cut.proofs.OrderRuleLaws.{closed_iff_ends}
use Rattle.mrd_cut.specs.Walked.{Stops, pieces_of, cursor_after}
use Rattle.mrd_cut.proofs.WalkedLaws.{refused-not-accepted, met, answer-after}
use Rattle.mrd_cut.specs.Accepted.{Acceptable}

-- a walk ends accepted only after a close, with the number of messages
ended-accepted : (b : Bool) (c : Cursor) {n : ℕ} → ended_as b c ≡ accepted n → (b ≡ true) × (c.number ≡ n)
ended-accepted true c e = (refl, cc)
ended-accepted false c e = absurd (refused-not-accepted e)

-- the messages that the walk of an accepted stream met are such a cut, and the answer is their number
pub accepted-cut : (rules : Rules) (s : List ℕ) {n : ℕ} → answer rules s ≡ accepted n →
    (a : Acceptable rules s) × (a.cut.pieces ≡ pieces_of (trace rules s)) × (length a.cut.pieces ≡ n)
unfolding ended
accepted-cut rules s {n} e = by-rest (met rules s).rest (met rules s).whole (rw e at (met rules s).stops)
  where
    ms : List (List ℕ)
    ms = pieces_of (trace rules s)

    by-rest : (rest : List ℕ) → joined ms ++ rest ≡ s → Stops rules (cursor_after rules ms (met rules s).well) rest (accepted n) →
        (a : Acceptable rules s) × (a.cut.pieces ≡ ms) × (length a.cut.pieces ≡ n)
    by-rest (b ∷ t) whole st = absurd (refused-not-accepted (sym st.2))
    by-rest [] whole st =
        let end = ended-accepted (is_closed (phase_after (kinds_in rules ms (met rules s).well))) (cursor_after rules ms (met rules s).well) (sym st) in
        let a : Acceptable rules s = record {
          cut = record { pieces = ms; well = (met rules s).well; whole = sym (append-nil (joined ms)) ∙ whole };
          few = (met rules s).few;
          ordered = (met rules s).ordered;
          closed = (closed_iff_ends (kinds_in rules ms (met rules s).well) (met rules s).ordered).0 end.0;
        } in
        (a, refl, end.1)

-- a stream that has such a cut is accepted, with its number of messages
pub cut-accepted : {rules : Rules} (s : List ℕ) (a : Acceptable rules s) → answer rules s ≡ accepted (length a.cut.pieces)
unfolding ended
cut-accepted {rules} s a =
    let ms = a.cut.pieces in
    let w = a.cut.well in
    let closed : is_closed (phase_after (kinds_in rules ms w)) ≡ true = (closed_iff_ends (kinds_in rules ms w) a.ordered).1 a.closed in
    let end : verdict (walk rules [] 0 (cursor_after rules ms w)) ≡ accepted (length ms) = rw (walk_end, closed) in
    rw (append-nil, a.cut.whole) at (answer-after rules ms w [] a.ordered a.few ∙ end)

-- a stream is accepted exactly when it has such a cut, and the answer is its number of messages
pub accepted_iff : (rules : Rules) (s : List ℕ) (n : ℕ) → (answer rules s ≡ accepted n) ↔ ((a : Acceptable rules s) × (length a.cut.pieces ≡ n))
accepted_iff rules s n = (λ e. let c = accepted-cut rules s e in (c.0, c.2), λ c. cut-accepted s c.0 ∙ ap accepted c.1)
