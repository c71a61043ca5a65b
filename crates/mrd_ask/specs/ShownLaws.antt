-- A place is shown exactly where the bytes have it; a stream has every place that is replied about it, with no index given or with one; and a view that
-- is replied is the one of the record's number.
-- Assumes nothing.
use Rattle.std.specs.Prelude.{ℕ, ◌-◌, ◌≤◌, ◌<◌, ◌≡◌, List, length}
use Rattle.std.proofs.Common.{arith}
use Rattle.std.proofs.Math.Path.{refl}
use borrow.Author.Tests.{le-leb, lt-leb}
use Rattle.mrd_logic.specs.Answer.{Answer, answered, stream, number, and_then}
use Rattle.mrd_stream.specs.Places.{place}
use Rattle.mrd_record.specs.RecordLaws.{place-lies}
use Rattle.mrd_parts.specs.declared.parts.Part.{Part}
use Rattle.mrd_views.specs.declared.views.Span.{Span}
use Rattle.mrd_views.specs.Views.{view_of, shown, ViewIn}
use Rattle.mrd_views.specs.ViewLaws.{view-fits}
use Rattle.mrd_fields.specs.Fields.{field_of}
use Rattle.mrd_find.specs.Find.{find_of}
use Rattle.mrd_ask.specs.declared.question.Question.{Question}
use Rattle.mrd_ask.specs.Replies as replies
use Rattle.mrd_ask.specs.Replies.{Replied, reply}
use Rattle.mrd_ask.specs.Questions.{ask_of}
use Rattle.mrd_ask.specs.Shown.{empty_span, span_of, fitted, SpanIn, spanned}
use Rattle.mrd_format.specs.declared.rules.Rules.{Rules}

module _ (n : ℕ) (x : Span) where
  -- it begins past their end
  pub fitted-past : n < x.start → fitted n x ≡ empty_span
  unfolding fitted
  fitted-past h = simp (lt-leb _ _ h)

  -- it ends past their end
  pub fitted-long : x.start ≤ n → n - x.start < x.length → fitted n x ≡ empty_span
  unfolding fitted
  fitted-long h g = simp (le-leb _ _ h, lt-leb _ _ g)

  pub fitted-whole : x.start ≤ n → x.length ≤ n - x.start → fitted n x ≡ x
  unfolding fitted
  fitted-whole h g = simp (le-leb _ _ h, le-leb _ _ g)

-- any bytes have nothing at their front
empty-fitted : (n : ℕ) → fitted n empty_span ≡ empty_span
empty-fitted n = fitted-whole n empty_span (omega arith) (omega arith)

module _ (rules : Rules) (s : List ℕ) where
  -- what no view answers shows nothing
  none-shown : {A : Type 0} (f : A → Replied) → ((x : A) → span_of (answered (f x)) ≡ empty_span) → (a : Answer A) → SpanIn s (reply f a)
  none-shown f e (answered x) = rw (e x) (empty-fitted (length s))
  none-shown f e (stream n r b) = empty-fitted (length s)
  none-shown f e (number n) = empty-fitted (length s)

  view-shown : (a : Answer Span) → ViewIn s a → SpanIn s (reply replies.view a)
  view-shown (answered x) v = fitted-whole (length s) x (omega (arith, v)) (omega (arith, v))
  view-shown (stream f r b) v = empty-fitted (length s)
  view-shown (number n) v = empty-fitted (length s)

  -- so the view of what was asked is the place that the answer says
  pub asked-fits : (q : Question) (cs : List ℕ) → SpanIn s (ask_of rules s q cs)
  unfolding ask_of view_of
  asked-fits (Question.Place n) cs = none-shown replies.place (λ x. refl) (place rules s n)
  asked-fits (Question.View n p) cs = view-shown (view_of rules s n p) (view-fits s (place rules s n) p (place-lies rules s n))
  asked-fits (Question.Field n o) cs = none-shown replies.field (λ x. refl) (field_of rules s n o)
  asked-fits (Question.Find n) cs = none-shown replies.found (λ x. refl) (find_of rules s n cs)

  -- whatever a given index is found to be
  pub indexed-fits : (m : Answer (Unit {0})) (q : Question) (cs : List ℕ) → SpanIn s (and_then m (λ _. ask_of rules s q cs))
  indexed-fits (answered t) q cs = asked-fits q cs
  indexed-fits (stream f r b) q cs = empty-fitted (length s)
  indexed-fits (number n) q cs = empty-fitted (length s)

  -- and the view that is replied is the one that its record's number gives
  pub asked-view : (n : ℕ) (p : Part) (cs : List ℕ) →
      spanned (fitted (length s) (span_of (ask_of rules s (Question.View n p) cs))) s ≡ shown (view_of rules s n p) s
  unfolding ask_of
  asked-view n p cs = rw (asked-fits (Question.View n p) cs) (by (view_of rules s n p))
    where
      by : (a : Answer Span) → spanned (span_of (reply replies.view a)) s ≡ shown a s
      by (answered x) = refl
      by (stream f r b) = refl
      by (number k) = refl
