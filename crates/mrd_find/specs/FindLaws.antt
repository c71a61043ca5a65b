-- A match found in one walk: what each message that is passed gives of the answer.
-- Assumes nothing.
use Rattle.std.specs.Prelude.{ℕ, ◌+◌, ◌-◌, ◌≤◌, ◌<◌, ◌≡◌, true, false, List, leb, eqb, length, drop}
use Rattle.std.proofs.Common.{arith, sym, ap, ◌∙◌, eqb-true, length-drop, length-append}
use Rattle.mrd_format.specs.declared.kind.Kind.{Kind}
use Rattle.mrd_format.specs.declared.rules.Rules.{Rules}
use Rattle.mrd_format.specs.Kinds.{id_of, fixed_size}
use Rattle.mrd_format.specs.KindLaws.{acquisition_of_id}
use Rattle.mrd_format.specs.Acquisition.{counters_of}
use Rattle.mrd_format.specs.Message.{fixed_part}
use Rattle.mrd_format.specs.Shapes.{kind_of}
use Rattle.mrd_format.specs.MessageLaws.{well-least, well-fixed}
use Rattle.mrd_cursor.specs.declared.cursor.Cursor.{Cursor}
use Rattle.mrd_stream.specs.Walk.{Trace, verdict, answer, from}
use Rattle.mrd_cursor.specs.Cursors.{beginning}
use Rattle.mrd_stream.specs.Places.{Located, step}
use Rattle.mrd_stream.specs.StepLaws.{Passes, step-yields, On, on-start, on-next, on_less, kept_next}
use Rattle.mrd_stream.specs.ReaderMeaning.{record_meaning, step_meaning}
use Rattle.mrd_stream.specs.declared.answer.PlacedRecord.{PlacedRecord}
use Rattle.mrd_stream.specs.declared.answer.Step.{Step}
use Rattle.mrd_find.specs.Find.{candidate, first_match, find_of}
use Rattle.mrd_logic.specs.Answer.{Answer, answered, unless_refused}
use Rattle.mrd_logic.specs.Choice.{both}
use Rattle.mrd_numbers.specs.Stored.{part_from, part-from}
use Rattle.mrd_judge.specs.JudgeLaws.{fixed-long}
use Rattle.mrd_logic.specs.Lists.{equal}

-- the answer that a trace gives
abbrev pub find_in : ℕ → List ℕ → Trace → Answer ℕ
find_in n cs t = unless_refused (verdict t) (first_match n cs t)

-- a walk that is at c: the answer from there on is the answer wanted
abbrev pub Finding : Rules → ℕ → List ℕ → Cursor → List ℕ → Type 0
Finding rules n cs c s = On rules (find_in n cs) (find_of rules s n cs) c s

pub finding-start : (rules : Rules) (n : ℕ) (cs s : List ℕ) → Finding rules n cs beginning s
unfolding find_of answer
finding-start rules n cs s = on-start rules (find_in n cs) s

-- a turn of the walk, which hands out a record and goes on from c to next
pub record SearchTurn (rules : Rules) (n : ℕ) (cs : List ℕ) (c : Cursor) (s : List ℕ) (here : PlacedRecord) (next : Cursor) : Type 0 where
  pub finding : Finding rules n cs c s
  pub passes : Passes rules c s (record_meaning here) next

pub turned : (rules : Rules) (n : ℕ) (cs : List ℕ) {c next : Cursor} {s : List ℕ} {r : Step} {here : PlacedRecord} → Finding rules n cs c s →
    step_meaning r ≡ step rules c s → r ≡ Step.Message here next → SearchTurn rules n cs c s here next
turned rules n cs {c} {s = s} f meant e = record { finding = f; passes = step-yields rules c s (sym meant ∙ ap step_meaning e) }

module _ {rules : Rules} {n : ℕ} {cs : List ℕ} {c : Cursor} {s : List ℕ} {here : PlacedRecord} {next : Cursor} (t : SearchTurn rules n cs c s here next) where
  pub nearer : length s - next.start < length s - c.start
  nearer = on_less s t.passes

  -- the record that is given is a candidate where the message is
  yields_record : candidate n c.number t.passes.kind ≡ candidate n here.place.number (kind_of here.shape)
  yields_record = ap (λ (l : Located). candidate n l.number l.kind) (sym t.passes.place)

  -- no candidate: the answer is that of what follows
  pub no-candidate : candidate n here.place.number (kind_of here.shape) ≡ false → Finding rules n cs next s
  no-candidate e =
      let other = yields_record ∙ e in
      on-next rules (find_in n cs) s (find_in n cs) t.finding t.passes (λ r. rw other)

  -- a candidate is an acquisition, whose header lies in the stream
  module _ (e : candidate n here.place.number (kind_of here.shape) ≡ true) where
    acquisition : t.passes.kind ≡ Kind.Acquisition
    acquisition =
        let k = kind_of here.shape in
        let id = eqb-true (id_of k) (id_of Kind.Acquisition) (both (leb n here.place.number) (eqb (id_of k) (id_of Kind.Acquisition)) e).1 in
        acquisition_of_id t.passes.kind (ap (λ (l : Located). id_of l.kind) (sym t.passes.place) ∙ id)

    starts : here.place.start ≡ c.start
    starts = ap (λ (l : Located). l.start) t.passes.place

    pub header-fits : here.place.start + 342 ≤ length s
    header-fits =
        let p = t.passes in
        let least : 2 + fixed_size p.kind ≤ length p.bytes = rw (← p.known) (well-least p.bytes p.well) in
        let size : fixed_size p.kind ≡ 340 = ap fixed_size acquisition in
        omega (arith, starts, least, size, simp (length-append, length-drop) at (ap length p.split))

    -- as its fixed part does in the part of the stream from its start on
    pub fixed-there : 2 + fixed_size Kind.Acquisition ≤ length (part_from here.place.start s)
    fixed-there = rw part-from (simp length-drop (omega (arith, header-fits)))

-- a turn at a candidate, whose header h was read
pub record Read (rules : Rules) (n : ℕ) (cs : List ℕ) (c : Cursor) (s : List ℕ) (here : PlacedRecord) (next : Cursor) (h : List ℕ) : Type 0 where
  pub turn : SearchTurn rules n cs c s here next
  pub one : candidate n here.place.number (kind_of here.shape) ≡ true
  pub header : h ≡ fixed_part Kind.Acquisition (part_from here.place.start s)

pub read : {rules : Rules} {n : ℕ} {cs : List ℕ} {c : Cursor} {s : List ℕ} {here : PlacedRecord} {next : Cursor} {h : List ℕ} → SearchTurn rules n cs c s here next →
    candidate n here.place.number (kind_of here.shape) ≡ true → h ≡ fixed_part Kind.Acquisition (part_from here.place.start s) → Read rules n cs c s here next h
read t e f = record { turn = t; one = e; header = f }

module _ {rules : Rules} {n : ℕ} {cs : List ℕ} {c : Cursor} {s : List ℕ} {here : PlacedRecord} {next : Cursor} {h : List ℕ} (x : Read rules n cs c s here next h) where
  pub header-long : length h ≡ 340
  header-long = ap length x.header ∙ fixed-long Kind.Acquisition (part_from here.place.start s) (fixed-there x.turn x.one)

  header-own : h ≡ fixed_part x.turn.passes.kind x.turn.passes.bytes
  header-own =
      let p = x.turn.passes in
      let own = well-fixed p.bytes (drop next.start s) p.well in
      x.header ∙ rw (part-from, starts x.turn x.one, p.split, ← acquisition x.turn x.one, ← p.known) own

  -- counters that differ: the answer is that of what follows
  pub no-match : equal (counters_of h) cs ≡ false → Finding rules n cs next s
  no-match f =
      let one = yields_record x.turn ∙ x.one in
      let other = rw header-own at f in
      on-next rules (find_in n cs) s (find_in n cs) x.turn.finding x.turn.passes (λ r. rw (one, other))

  -- counters that are the same: what follows only tells whether the stream is refused
  pub match-found : equal (counters_of h) cs ≡ true → unless_refused (verdict (from rules next s)) (answered here.place.number) ≡ find_of rules s n cs
  match-found f =
      let one = yields_record x.turn ∙ x.one in
      let all = rw header-own at f in
      let number : here.place.number ≡ c.number = ap (λ (l : Located). l.number) x.turn.passes.place in
      rw number
      (kept_next rules (find_in n cs) s (λ (r : Trace). unless_refused (verdict r) (answered c.number)) x.turn.finding.kept x.turn.passes
      (λ r. rw (one, all)))
