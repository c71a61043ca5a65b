-- The messages of an accepted stream put in normal form, one after the other: what the walk has put, and what is still to do.
-- Assumes nothing.
use Rattle.std.specs.Prelude.{ℕ, ◌+◌, ◌-◌, ◌≤◌, ◌<◌, ◌≡◌, refl, List, [], ◌++◌, length, take, drop}
use Rattle.std.proofs.Common.{arith, sym, ap, ◌∙◌, append-nil, append_assoc, length-append, length-drop, length-take-le, take_at, drop_at, drop-drop}
use Rattle.mrd_numbers.specs.Stored.{part_from, part-from}
use Rattle.mrd_format.specs.declared.kind.Kind.{Kind}
use Rattle.mrd_format.specs.declared.rules.Rules.{Rules}
use Rattle.mrd_format.specs.declared.rules.Profile.TheVariants.{Plain}
use Rattle.mrd_cursor.specs.declared.cursor.Cursor.{Cursor}
use Rattle.mrd_cursor.specs.Cursors.{beginning, after}
use Rattle.mrd_judge.specs.declared.sort.Sort.{Sort}
use Rattle.mrd_judge.specs.Sorts.{kind_in}
use Rattle.mrd_judge.specs.Judge.{judge, faulty, passes, refused_by, sorted, judge_by}
use Rattle.mrd_judge.specs.TextLaws.{faulty-too, never-faulty}
use Rattle.mrd_logic.specs.Answer.{Verdict, accepted, refused}
use Rattle.mrd_format.specs.Content.{normal_of}
use Rattle.mrd_stream.specs.Walk.{verdict, answer}
use Rattle.mrd_stream.specs.Normal.{normal_from, normal}
use Rattle.mrd_stream.specs.NextLaws as laws
use Rattle.mrd_stream.specs.Places.{Located, located, over, step}
use Rattle.mrd_stream.specs.StepLaws.{Passes, On, on-start, on-next, on-end, step-yields}
use Rattle.mrd_normal.specs.MessageOf.{MessageOf, normal-length}

-- s is accepted, and o has room for it
pub record Room (rules : Rules) (s o : List ℕ) : Type 0 where
  pub count : ℕ
  pub passed : answer rules s ≡ accepted count
  pub fits : length s ≤ length o

-- the walk over s is at c; out, which was o, holds the normal form of what was passed, and after it what it held
pub record Putting (rules : Rules) (s o : List ℕ) (c : Cursor) (out : List ℕ) : Type 0 where
  pub room : Room rules s o
  pub ready : List ℕ
  pub long : length ready ≡ c.start
  pub holds : out ≡ ready ++ drop c.start o
  pub walk : On rules verdict (answer rules s) c s
  pub whole : On rules (λ r. ready ++ normal_from r) (normal rules s) c s

pub start : {rules : Rules} {s o : List ℕ} → Room rules s o → Putting rules s o beginning o
unfolding answer normal
start {rules} {s} {o} h =
    record { room = h; ready = []; long = refl; holds = refl; walk = on-start rules verdict s; whole = on-start rules normal_from s }

-- the output keeps its length
pub same_size : {rules : Rules} {s o out : List ℕ} {c : Cursor} → Putting rules s o c out → length out ≡ length o
same_size {rules} {s} {o} {out} {c} h =
    let size = simp (length-append, length-drop) at (ap length h.holds) in
    omega (arith, size, h.long, h.walk.within, h.room.fits)

-- a message that is passed reaches up to where the next one starts
pub reach : {rules : Rules} {c d : Cursor} {s : List ℕ} {l : Located} (p : Passes rules c s l d) → d.start ≡ c.start + length p.bytes
reach p = omega (arith, simp (length-append, length-drop) at (ap length p.split), p.ahead, p.within)

-- it is the message there, of the kind that was handed out
passed-bytes : {rules : Rules} {c d : Cursor} {s : List ℕ} {l : Located} (p : Passes rules c s l d) → p.bytes ≡ take (d.start - c.start) (drop c.start s)
passed-bytes {rules} {c} {d} {s} p =
    let size : length p.bytes ≡ d.start - c.start = omega (arith, reach p, p.ahead) in
    sym (take_at p.bytes (drop d.start s) (d.start - c.start) size) ∙ ap (take (d.start - c.start)) (sym p.split)

pub passed-message : {rules : Rules} {c d : Cursor} {s : List ℕ} {l : Located} (p : Passes rules c s l d) →
    MessageOf l.kind (take (d.start - c.start) (drop c.start s))
passed-message {rules} p = rw (← passed-bytes p) (rules, p.well, p.known ∙ sym (ap (λ (l : Located). l.kind) p.place))

-- the bytes from b up to e are as many in one list as in another that reaches as far
pub same-room : (b e : ℕ) (s t : List ℕ) → e ≤ length s → e ≤ length t → length (take (e - b) (drop b t)) ≡ length (take (e - b) (drop b s))
same-room b e s t h i =
    let size : (u : List ℕ) → e ≤ length u → length (take (e - b) (drop b u)) ≡ e - b =
    λ u j. length-take-le (e - b) (drop b u) (simp length-drop (omega arith)) in
    size t i ∙ sym (size s h)

-- past a message whose normal form was put in its place: y is that part of the output, as it came back
pub next : {rules : Rules} {s o out : List ℕ} {c d : Cursor} {l : Located} {y : List ℕ} → Putting rules s o c out → (p : Passes rules c s l d) →
    y ≡ normal_of l.kind (take (d.start - c.start) (drop c.start s)) →
    Putting rules s o d (take c.start out ++ (y ++ drop (d.start - c.start) (drop c.start out)))
next {rules} {s} {o} {out} {c} {d} {l} {y} h p q =
    let n = normal_of p.kind p.bytes in
    let a = h.ready in
    let e : y ≡ n = q ∙ rw (passed-bytes p, ← ap (λ (l : Located). l.kind) p.place) in
    let far : c.start + (d.start - c.start) ≡ d.start = omega (arith, p.ahead) in
    let size : length n ≡ length p.bytes = normal-length p.kind p.bytes (rules, p.well, p.known) in
    let before : take c.start out ≡ a = rw h.holds (take_at a (drop c.start o) c.start h.long) in
    let after : drop c.start out ≡ drop c.start o = rw h.holds (drop_at a (drop c.start o) c.start h.long) in
    record {
      room = h.room;
      ready = a ++ n;
      long = length-append a n ∙ omega (arith, size, h.long, reach p);
      holds = rw (before, after, e, drop-drop, far) (sym (append_assoc a n (drop d.start o)));
      walk = on-next rules verdict s verdict h.walk p (λ r. refl);
      whole =
          on-next rules (λ r. a ++ normal_from r) s (λ r. a ++ n ++ normal_from r) h.whole p (λ r. sym (append_assoc a n (normal_from r)));
    }

-- at the end
pub finish : {rules : Rules} {s o out : List ℕ} {c : Cursor} {v : Verdict} → Putting rules s o c out → length s ≤ c.start → step rules c s ≡ over v → out ≡ normal rules s ++ drop (length s) o
finish {rules} {s} {o} {out} {c} {v} h past e =
    let end : c.start ≡ length s = omega (arith, h.walk.within) in
    let all : h.ready ++ [] ≡ normal rules s = on-end rules (λ r. h.ready ++ normal_from r) s h.whole e in
    h.holds ∙ rw (end, ← all, append-nil)

-- no message of an accepted stream is refused
pub never-refused : {rules : Rules} {s o out : List ℕ} {c : Cursor} {f r b : ℕ} → Putting rules s o c out → step rules c s ≡ over (refused f r b) → ⊥
never-refused {rules} {s} h e =
    let end : refused _ _ _ ≡ accepted h.room.count = on-end rules verdict s h.walk e ∙ h.room.passed in
    let z : ◌≡◌ {A = ℕ} 0 1 = cc in omega arith

-- what judging the message that is due tells, where bytes are left
module _ {rules : Rules} {s o out : List ℕ} {c : Cursor} (h : Putting rules s o c out) (more : c.start < length s) where
  -- it is not faulty
  pub judged-faulty : {x : ℕ} → refused_by x ≡ sorted (judge_by Plain rules c (part_from c.start s)) → ⊥
  judged-faulty told =
      never-refused h (laws.step-faulty rules c s more (faulty-too rules c (drop c.start s) (rw part-from at told)))

  -- found whole, with so many bytes: a step passes it, and there is room for it
  module _ {k : Kind} {w : Sort} {z : ℕ} (kind : k ≡ kind_in rules w) (told : passes w z ≡ sorted (judge_by Plain rules c (part_from c.start s))) where
    pub judged-passes : Passes rules c s (located c k (take z (drop c.start s))) (after c k z)
    judged-passes =
        let accepted : (f : ℕ) → judge rules c (drop c.start s) ≡ faulty f → ⊥ = λ f e. never-refused h (laws.step-faulty rules c s more e) in
        let due = never-faulty rules c (drop c.start s) (rw part-from at told) accepted in
        step-yields rules c s (laws.step-whole rules c s more (rw kind due))

    pub judged-ends : (c.start + z ≤ length s) × (length s ≤ length out)
    judged-ends = (judged-passes.within, omega (arith, h.room.fits, same_size h))
