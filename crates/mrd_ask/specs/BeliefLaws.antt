-- Whatever is asked, a given index is believed exactly when it is the stream's own.
-- Assumes nothing.
use Rattle.std.specs.Prelude.{ℕ, ◌≡◌, refl, List}
use Rattle.std.proofs.Common.{arith, sym, ap, ◌∙◌}
use Rattle.mrd_logic.specs.AnswerLaws.{stream-not-number}
use Rattle.mrd_logic.specs.Answer.{Verdict, accepted, refused, Answer, answered, stream, number, and_then}
use Rattle.mrd_stream.specs.Walk.{answer}
use Rattle.mrd_stream.specs.Index.{index}
use Rattle.mrd_stream.specs.Places.{place}
use Rattle.mrd_cut.proofs.WalkedLaws.{refused-not-accepted}
use Rattle.mrd_index_match.specs.Compare.{file_match, columns_match}
use Rattle.mrd_index_match.specs.Exactly.{Held, Accepted, Exactly, believed-exactly}
use Rattle.mrd_views.specs.Views.{view_of}
use Rattle.mrd_fields.specs.Fields.{field_of}
use Rattle.mrd_find.specs.Find.{find_of}
use Rattle.mrd_ask.specs.declared.question.Question.{Question}
use Rattle.mrd_ask.specs.Replies.{Replied}
use Rattle.mrd_ask.specs.Questions.{ask_of}
use Rattle.mrd_ask.specs.RefusalLaws.{refuses-above, ask_refuses}
use Rattle.mrd_ask.specs.Belief.{Believed}
use Rattle.mrd_format.specs.declared.rules.Rules.{Rules}

-- a refused stream's refusal comes first, whatever is asked
stream-asked : (rules : Rules) (s : List ℕ) (q : Question) (cs : List ℕ) {f r b : ℕ} → answer rules s ≡ refused f r b → ask_of rules s q cs ≡ stream f r b
unfolding ask_of place view_of field_of find_of
stream-asked rules s (Question.Place n) cs e = rw e
stream-asked rules s (Question.View n p) cs e = rw e
stream-asked rules s (Question.Field n o) cs e = rw e
stream-asked rules s (Question.Find n) cs e = rw e

module _ {rules : Rules} (s : List ℕ) {own : Type 0} (m : Answer (Unit {0})) (x : Exactly rules s own m) (q : Question) (cs : List ℕ) where
  abbrev asked : Answer (Unit {0}) → Answer Replied
  asked n = and_then n (λ _. ask_of rules s q cs)

  own-answered : own → (v : Verdict) → answer rules s ≡ v → asked m ≡ ask_of rules s q cs
  own-answered o (accepted n) e = ap asked (x.own-believed.1 (record { count = n; passed = e; holds = o }))
  own-answered o (refused f r b) e = ap asked (x.stream-first.1 e) ∙ sym (stream-asked rules s q cs e)

  -- with no index given no question is refused with 15
  asked-not-15 : ask_of rules s q cs ≡ number 15 → ⊥
  asked-not-15 = refuses-above 16 (ask_of rules s q cs) (ask_refuses rules s q cs) (omega arith)

  only-own : {k : ℕ} → answer rules s ≡ accepted k → (n : Answer (Unit {0})) → m ≡ n → asked n ≡ ask_of rules s q cs → own
  only-own a (answered t) e w = (x.own-believed.0 e).holds
  only-own a (stream f r b) e w = absurd (refused-not-accepted (sym (x.stream-first.0 e) ∙ a))
  only-own a (number k) e w = absurd (asked-not-15 (sym w ∙ ap number (x.no-other-number e)))

  only-other : (n : Answer (Unit {0})) → m ≡ n → asked n ≡ number 15 → Accepted rules s (own → ⊥)
  only-other (answered t) e w = absurd (asked-not-15 w)
  only-other (stream f r b) e w = absurd (stream-not-number w)
  only-other (number k) e w = x.other-15.0 (e ∙ ap number (x.no-other-number e))

  believed : Believed rules s own (ask_of rules s q cs) (asked m)
  believed =
      record {
        own-answered = λ o. own-answered o (answer rules s) refl;
        own-believed = λ a. (only-own a m refl, λ o. own-answered o (answer rules s) refl);
        other-15 = (only-other m refl, λ a. ap asked (x.other-15.1 a));
        stream-first = λ e. ap asked (x.stream-first.1 e);
      }

-- an index given as a file, and as columns
pub ask_believed : (rules : Rules) (s : List ℕ) (q : Question) (cs file starts ids counters : List ℕ) →
    Believed rules s (file ≡ index rules s) (ask_of rules s q cs) (and_then (file_match rules s file) (λ _. ask_of rules s q cs)) ×
    Believed rules s (Held rules s starts ids counters) (ask_of rules s q cs) (and_then (columns_match rules s starts ids counters) (λ _. ask_of rules s q cs))
ask_believed rules s q cs f a b c =
    let x = believed-exactly rules s f a b c in
    (believed s (file_match rules s f) x.0 q cs, believed s (columns_match rules s a b c) x.1 q cs)
