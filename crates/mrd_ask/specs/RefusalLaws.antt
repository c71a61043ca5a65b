-- Which numbers refuse: a walk's and a stream's are not 0, from whatever cursor it is walked; a question's own are from 16 on.
-- Assumes nothing.
use Rattle.std.specs.Prelude.{ℕ, zero, suc, pred, ◌≤◌, ◌<◌, ◌≡◌, refl, Bool, true, false, List, [], ◌∷◌, take, drop}
use Rattle.std.proofs.Common.{arith, subst}
use Rattle.mrd_logic.specs.Answer.{Verdict, accepted, refused, Answer, answered, stream, number, unless_refused, and_then}
use Rattle.mrd_logic.specs.AnswerLaws.{answered-not-number, stream-not-number}
use Rattle.mrd_logic.specs.Choice.{pick}
use Rattle.mrd_logic.specs.CheckLaws.{fault-not-zero}
use Rattle.mrd_format.specs.declared.kind.Kind.{Kind}
use Rattle.mrd_format.specs.declared.rules.Rules.{Rules}
use Rattle.mrd_format.specs.Kinds.{identified}
use Rattle.mrd_format.specs.Message.{id_at, fixed_part}
use Rattle.mrd_format.specs.Parts.{Reach, lies, lacks}
use Rattle.mrd_format.specs.Content.{extent_of}
use Rattle.mrd_cursor.specs.declared.cursor.Cursor.{Cursor}
use Rattle.mrd_cursor.specs.Cursors.{after}
use Rattle.mrd_cursor.specs.Order.{is_closed}
use Rattle.mrd_judge.specs.Stages.{checks_as}
use Rattle.mrd_judge.specs.Judge.{Judged, faulty, whole, judge}
use Rattle.mrd_judge.specs.WholeLaws.{all-numbered, judge-faulty}
use Rattle.mrd_stream.specs.Walk.{ended_as, ended, Trace, message, done, walk, from, trace, verdict, answer}
use Rattle.mrd_stream.specs.WalkLaws.{walk-fault}
use Rattle.mrd_stream.specs.Places as places
use Rattle.mrd_stream.specs.Places.{Located, nth, place, Stepped, yields, over, step}
use Rattle.mrd_stream.specs.StepLaws.{step-over}
use Rattle.mrd_cut.specs.CutPlaces.{part_at}
use Rattle.mrd_record.specs.AtCursor.{place_by, place_at}
use Rattle.mrd_parts.specs.declared.parts.Part.{Part}
use Rattle.mrd_parts.specs.Sought.{part_meaning}
use Rattle.mrd_views.specs.Views.{shown_at, view_by, view_of}
use Rattle.mrd_element.specs.Element.{Start, starts, none, element_at, read_at, element_of}
use Rattle.mrd_fields.specs.Fields.{field_by, field_of}
use Rattle.mrd_find.specs.Find.{matches, first_match, find_of}
use Rattle.mrd_ask.specs.declared.question.Question.{Question}
use Rattle.mrd_ask.specs.Replies.{Replied, view, field, found, reply}
use Rattle.mrd_ask.specs.Replies as replies
use Rattle.mrd_ask.specs.Questions.{ask_of}

-- a verdict's number is not 0
abbrev pub NumberedRefusal : Verdict → Type 0
NumberedRefusal (accepted n) = Unit {0}
NumberedRefusal (refused f r b) = 0 < f

-- nor is that of a stream's refusal in an answer, and a number alone is at least m
abbrev pub Refuses : {A : Type 0} → ℕ → Answer A → Type 0
Refuses m (answered x) = Unit {0}
Refuses m (stream f r b) = 0 < f
Refuses m (number n) = m ≤ n

module _ {A : Type 0} (m : ℕ) where
  pub unless-refuses : (v : Verdict) (a : Answer A) → NumberedRefusal v → Refuses m a → Refuses m (unless_refused v a)
  unless-refuses (accepted n) a v r = r
  unless-refuses (refused f n b) a v r = v

  pub then-refuses : {B : Type 0} (b : Answer B) (f : B → Answer A) → Refuses m b → ((x : B) → Refuses m (f x)) → Refuses m (and_then b f)
  then-refuses (answered x) f r g = g x
  then-refuses (stream n i b) f r g = r
  then-refuses (number n) f r g = r

  -- a number alone that is less is none
  pub refuses-above : (a : Answer A) → Refuses m a → {n : ℕ} → n < m → a ≡ number n → ⊥
  refuses-above (answered x) r h e = answered-not-number e
  refuses-above (stream f i b) r h e = stream-not-number e
  refuses-above (number k) r {n} h e = let z : k ≡ n = cc in omega (arith, r, h, z)

-- a walk, from any cursor
judge-numbered : (rules : Rules) (c : Cursor) (t : List ℕ) {f : ℕ} → judge rules c t ≡ faulty f → 0 < f
judge-numbered rules c t {f} e =
    let i = identified rules (id_at t) in
    let some = fault-not-zero (checks_as rules.profile i c t) {f = f} (all-numbered rules.profile i c t) (judge-faulty rules c t e) in
    omega (arith, some)

ended-numbered : (c : Cursor) → NumberedRefusal (ended c)
unfolding ended
ended-numbered c = by (is_closed c.phase)
  where
    by : (b : Bool) → NumberedRefusal (ended_as b c)
    by true = tt
    by false = omega arith

walk-whole : (rules : Rules) (b : ℕ) (t : List ℕ) (c : Cursor) {k : Kind} {z : ℕ} → judge rules c (b ∷ t) ≡ whole k z →
    walk rules (b ∷ t) 0 c ≡ message c k (take z (b ∷ t)) (walk rules t (pred z) (after c k z))
unfolding walk
walk-whole rules b t c e = rw (e, walk)

walk-numbered : (rules : Rules) (t : List ℕ) (k : ℕ) (c : Cursor) → NumberedRefusal (verdict (walk rules t k c))
unfolding walk
walk-numbered rules [] k c = ended-numbered c
walk-numbered rules (b ∷ t) (suc k) c = walk-numbered rules t k c
walk-numbered rules (b ∷ t) zero c = by (λ k d. walk-numbered rules t k d) (judge rules c (b ∷ t)) refl
  where
    by : ((k : ℕ) (d : Cursor) → NumberedRefusal (verdict (walk rules t k d))) → (j : Judged) → judge rules c (b ∷ t) ≡ j → NumberedRefusal (verdict (walk rules (b ∷ t) 0 c))
    by later (faulty f) e = rw (walk-fault rules b t c e) (judge-numbered rules c (b ∷ t) e)
    by later (whole k z) e = rw (walk-whole rules b t c e) (later (pred z) (after c k z))

pub from-numbered : (rules : Rules) (c : Cursor) (s : List ℕ) → NumberedRefusal (verdict (from rules c s))
from-numbered rules c s = walk-numbered rules (drop c.start s) 0 c

pub answer-numbered : (rules : Rules) (s : List ℕ) → NumberedRefusal (answer rules s)
unfolding answer trace
answer-numbered rules s = walk-numbered rules s 0 _

pub over-numbered : (rules : Rules) (c : Cursor) (s : List ℕ) {v : Verdict} → step rules c s ≡ over v → NumberedRefusal v
over-numbered rules c s e = subst (λ (r : Trace). NumberedRefusal (verdict r)) (step-over rules c s e) (from-numbered rules c s)

-- place and kind
nth_refuses : (ls : List Located) (n : ℕ) → Refuses 16 (nth ls n)
nth_refuses [] n = omega arith
nth_refuses (l ∷ ls) zero = tt
nth_refuses (l ∷ ls) (suc n) = nth_refuses ls n

pub place_refuses : (rules : Rules) (s : List ℕ) (n : ℕ) → Refuses 16 (place rules s n)
unfolding place
place_refuses rules s n = unless-refuses 16 (answer rules s) _ (answer-numbered rules s) (nth_refuses (places.places (trace rules s)) n)

pub at_refuses : (rules : Rules) (c : Cursor) (s : List ℕ) → Refuses 16 (place_at rules c s)
unfolding place_at
at_refuses rules c s = by (step rules c s) refl
  where
    by : (x : Stepped) → step rules c s ≡ x → Refuses 16 (place_by x)
    by (yields l d) e = tt
    by (over (accepted n)) e = omega arith
    by (over (refused f r b)) e = over-numbered rules c s e

-- views and fields of a record whose place is answered
pub view_refuses : (a : Answer Located) (p : Part) (s : List ℕ) → Refuses 16 a → Refuses 16 (view_by a p s)
view_refuses a p s r =
    then-refuses 16 a _ r (λ l. reached (extent_of (part_meaning p) l.kind (fixed_part l.kind (part_at s l))) l.start)
  where
    reached : (x : Reach) (i : ℕ) → Refuses 16 (shown_at x i)
    reached (lies e) i = tt
    reached lacks i = omega arith

pub field_refuses : (a : Answer Located) (o : ℕ) (s : List ℕ) → Refuses 16 a → Refuses 16 (field_by a o s)
unfolding element_of
field_refuses a o s r = then-refuses 16 a _ r (λ l. started (element_at l.kind o) (fixed_part l.kind (part_at s l)))
  where
    started : (x : Start) (h : List ℕ) → Refuses 16 (read_at x h o)
    started (starts t) h = tt
    started none h = omega arith

-- a search
pub find_refuses : (rules : Rules) (s : List ℕ) (n : ℕ) (cs : List ℕ) → Refuses 16 (find_of rules s n cs)
unfolding find_of
find_refuses rules s n cs = unless-refuses 16 (answer rules s) _ (answer-numbered rules s) (at (trace rules s))
  where
    either : (b : Bool) (i : ℕ) (a : Answer ℕ) → Refuses 16 a → Refuses 16 (pick b (answered i) a)
    either true i a r = tt
    either false i a r = r

    at : (t : Trace) → Refuses 16 (first_match n cs t)
    at (message c k m r) = either (matches n cs c k m) c.number (first_match n cs r) (at r)
    at (done v) = omega arith

-- any question
reply_refuses : {A : Type 0} (f : A → Replied) (a : Answer A) → Refuses 16 a → Refuses 16 (reply f a)
reply_refuses f a r = then-refuses 16 a _ r (λ x. tt)

pub ask_refuses : (rules : Rules) (s : List ℕ) (q : Question) (cs : List ℕ) → Refuses 16 (ask_of rules s q cs)
unfolding ask_of view_of field_of
ask_refuses rules s (Question.Place n) cs = reply_refuses replies.place (places.place rules s n) (place_refuses rules s n)
ask_refuses rules s (Question.View n p) cs = reply_refuses view (view_by (places.place rules s n) p s) (view_refuses (places.place rules s n) p s (place_refuses rules s n))
ask_refuses rules s (Question.Field n o) cs = reply_refuses field (field_by (places.place rules s n) o s) (field_refuses (places.place rules s n) o s (place_refuses rules s n))
ask_refuses rules s (Question.Find n) cs = reply_refuses found (find_of rules s n cs) (find_refuses rules s n cs)
