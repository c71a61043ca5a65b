-- A given index is believed exactly when it is the one that the stream yields.
-- Assumes nothing.
use Rattle.std.specs.Prelude.{ℕ, ◌≡◌, refl, ◌↔◌, Bool, true, false, ◌&&◌, List, length, take}
use Rattle.std.proofs.Common.{sym, ap, ◌∙◌, true≢false}
use Rattle.mrd_logic.specs.Choice.{both}
use Rattle.mrd_logic.specs.Lists.{begins, equal}
use Rattle.mrd_logic.specs.ListLaws.{equal_refl, equal-same, begins-take, take_begins}
use Rattle.mrd_logic.specs.Answer.{Verdict, accepted, refused, Answer, answered, stream, number, unless_refused}
use Rattle.mrd_logic.specs.AnswerLaws.{answered-not-number, answered-not-stream, stream-not-number}
use Rattle.mrd_stream.specs.Walk.{answer}
use Rattle.mrd_stream.specs.Index.{index, start_column, id_column, counter_column}
use Rattle.mrd_cut.proofs.WalkedLaws.{refused-not-accepted}
use Rattle.mrd_index_match.specs.Compare.{believed, file_match, columns_match}
use Rattle.mrd_format.specs.declared.rules.Rules.{Rules}

-- columns: 'none is too short and the records' places hold its numbers'
pub record Held (rules : Rules) (s starts ids counters : List ℕ) : Type 0 where
  pub by-starts : take (length (start_column rules s)) starts ≡ start_column rules s
  pub by-ids : take (length (id_column rules s)) ids ≡ id_column rules s
  pub by-counters : take (length (counter_column rules s)) counters ≡ counter_column rules s

-- the stream is accepted, and what P says holds
pub record Accepted (rules : Rules) (s : List ℕ) (P : Type 0) : Type 0 where
  pub count : ℕ
  pub passed : answer rules s ≡ accepted count
  pub holds : P

-- m is answered for an index given with s, where `own` says that it is the one that s yields: it is believed exactly when s is accepted and it is;
-- refused with a number, which is 15, exactly when s is accepted and it is not; and else the stream's refusal
pub record Exactly (rules : Rules) (s : List ℕ) (own : Type 0) (m : Answer (Unit {0})) : Type 0 where
  pub own-believed : (m ≡ answered tt) ↔ Accepted rules s own
  pub other-15 : (m ≡ number 15) ↔ Accepted rules s (own → ⊥)
  pub no-other-number : {k : ℕ} → m ≡ number k → k ≡ 15
  pub stream-first : {f r b : ℕ} → (m ≡ stream f r b) ↔ (answer rules s ≡ refused f r b)

-- two answers of one case are the same where their numbers are
abbrev Same : Answer (Unit {0}) → Answer (Unit {0}) → Type 0
Same a b = a ≡ b

same_number : {n k : ℕ} → Same (number n) (number k) → k ≡ n
same_number e = cc

same-stream : {f r b g q c : ℕ} → Same (stream f r b) (stream g q c) → refused f r b ≡ refused g q c
same-stream e = cc

-- a test that tells whether the index is the stream's own
module _ (rules : Rules) (s : List ℕ) {own : Type 0} (x : Bool) (meant : (x ≡ true) ↔ own) where
  exactly : (v : Verdict) → answer rules s ≡ v → (b : Bool) → x ≡ b → Exactly rules s own (unless_refused v (believed b))
  exactly (accepted n) e true t =
      record {
        own-believed = (λ _. record { count = n; passed = e; holds = meant.0 t }, λ _. refl);
        other-15 = (λ q. absurd (answered-not-number q), λ a. absurd (a.holds (meant.0 t)));
        no-other-number = λ q. absurd (answered-not-number q);
        stream-first = (λ q. absurd (answered-not-stream q), λ q. absurd (refused-not-accepted (sym q ∙ e)));
      }
  exactly (accepted n) e false t =
      let other : own → ⊥ = λ o. true≢false (sym (meant.1 o) ∙ t) in
      record {
        own-believed = (λ q. absurd (answered-not-number (sym q)), λ a. absurd (other a.holds));
        other-15 = (λ _. record { count = n; passed = e; holds = other }, λ _. refl);
        no-other-number = same_number;
        stream-first = (λ q. absurd (stream-not-number (sym q)), λ q. absurd (refused-not-accepted (sym q ∙ e)));
      }
  exactly (refused f r b) e y t =
      record {
        own-believed = (λ q. absurd (answered-not-stream (sym q)), λ a. absurd (refused-not-accepted (sym e ∙ a.passed)));
        other-15 = (λ q. absurd (stream-not-number q), λ a. absurd (refused-not-accepted (sym e ∙ a.passed)));
        no-other-number = λ q. absurd (stream-not-number q);
        stream-first = (λ q. e ∙ same-stream q, λ q. ap (λ (v : Verdict). unless_refused v (believed y)) (sym e ∙ q));
      }

-- columns found to begin with the index's
held-begins : (rules : Rules) (s a b c : List ℕ) → ((begins (start_column rules s) a && (begins (id_column rules s) b && begins (counter_column rules s) c)) ≡ true) ↔ Held rules s a b c
held-begins rules s a b c = (held, λ h. simp (take_begins _ a h.by-starts, take_begins _ b h.by-ids, take_begins _ c h.by-counters))
  where
    held : (begins (start_column rules s) a && (begins (id_column rules s) b && begins (counter_column rules s) c)) ≡ true → Held rules s a b c
    held e =
        let first = both (begins (start_column rules s) a) (begins (id_column rules s) b && begins (counter_column rules s) c) e in
        let others = both (begins (id_column rules s) b) (begins (counter_column rules s) c) first.1 in
        record {
          by-starts = begins-take (start_column rules s) a first.0;
          by-ids = begins-take (id_column rules s) b others.0;
          by-counters = begins-take (counter_column rules s) c others.1;
        }

-- a file is the index byte for byte, none short and none over; columns hold it
pub believed-exactly : (rules : Rules) (s file starts ids counters : List ℕ) →
    Exactly rules s (file ≡ index rules s) (file_match rules s file) × Exactly rules s (Held rules s starts ids counters) (columns_match rules s starts ids counters)
unfolding file_match columns_match
believed-exactly rules s f a b c = (
  exactly rules s (equal f (index rules s)) (equal-same f (index rules s), λ e. ap (λ (g : List ℕ). equal g (index rules s)) e ∙ equal_refl (index rules s)) (answer rules s) refl _ refl,
  exactly rules s _ (held-begins rules s a b c) (answer rules s) refl _ refl,
)
