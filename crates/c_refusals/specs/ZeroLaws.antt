-- For every function of C: the `refusal` of its answer is 0 only where there is an answer, so C may go by that member alone.
-- Of a step it is the member of `answer`, with `ended` for whether a record or the end of an accepted stream is there; `here` has 0 at every end.
-- Assumes nothing.
use Rattle.std.specs.Prelude.{ℕ, zero, suc, ◌+◌, ◌-◌, ◌<◌, ◌≡◌, refl, Bool, true, false, ◌&&◌, ◌||◌, List, [], ◌∷◌, ltb, length, Option, Some, None}
use Rattle.std.proofs.Common.{arith}
use Rattle.mrd_logic.specs.Answer.{Verdict, accepted, refused, Answer, answered, stream, number, and_then}
use Rattle.mrd_logic.specs.Lists.{begins, equal}
use Rattle.mrd_logic.specs.Choice.{pick}
use Rattle.mrd_logic.specs.Checks.{first, unless}
use Rattle.mrd_format.specs.Kinds.{identified}
use Rattle.mrd_format.specs.declared.kind.Kind.{Kind}
use Rattle.mrd_format.specs.Parts.{header, same, Extent, Contents}
use Rattle.mrd_format.specs.Segments.{PlacedPart}
use Rattle.mrd_format.specs.Message.{fixed_part}
use Rattle.mrd_format.specs.Content.{placed_parts}
use Rattle.mrd_format.specs.Holding.{holds, holding}
use Rattle.mrd_cut.specs.CutPlaces.{part_at}
use Rattle.mrd_cursor.specs.declared.cursor.Cursor as walk
use Rattle.mrd_stream.specs.Walk.{trace, from, verdict, answer}
use Rattle.mrd_stream.specs.Places.{Located, places, place, Stepped, yields, over, step}
use Rattle.mrd_stream.specs.Index.{index, entries, start_column, id_column, counter_column}
use Rattle.mrd_stream.specs.Output.{answer_by, answer_for}
use Rattle.mrd_record.specs.AtCursor.{place_at}
use Rattle.mrd_parts.specs.declared.parts.Part.{Part}
use Rattle.mrd_views.specs.Views.{view_by, view_of}
use Rattle.mrd_element.specs.Element.{FieldValue, whole, signed, float}
use Rattle.mrd_fields.specs.Fields.{field_by, field_of}
use Rattle.mrd_find.specs.Find.{find_of}
use Rattle.mrd_element.specs.Pieces.{place_of, header_pieces, header_byte_of}
use Rattle.mrd_holding.specs.Held.{told, part_holding}
use Rattle.mrd_part_at.specs.PartAt.{extent_at, record_holding, part_in, part_of_byte}
use Rattle.mrd_columns.specs.Columns.{columns_answer}
use Rattle.mrd_salvage.specs.Salvage.{salvaged, report, salvage_answer}
use Rattle.mrd_index_match.specs.Compare.{believed, file_match, columns_match}
use Rattle.mrd_index_cursor.specs.IndexCursor.{cursor_for}
use Rattle.mrd_ask.specs.declared.question.Question.{Question}
use Rattle.mrd_ask.specs.Questions.{ask_of}
use Rattle.mrd_ask.specs.RefusalLaws.{NumberedRefusal, Refuses, unless-refuses, then-refuses, from-numbered, answer-numbered, over-numbered, place_refuses, at_refuses, view_refuses, field_refuses, find_refuses, ask_refuses}
use Rattle.mrd_writer.specs.Write.{contents_size, write_checks, answer_as, write_answer}
use Rattle.c_place.specs.PlacedStruct.{c_placed}
use Rattle.c_walk.specs.WalkStructs.{c_checked, c_cursor_answer, c_step}
use Rattle.c_record.specs.RecordStructs.{c_view, c_field, c_found}
use Rattle.c_part_at.specs.PartStruct.{c_part}
use Rattle.c_written.specs.WrittenStructs.{c_written, c_matched, c_put}
use Rattle.c_salvage.specs.SalvagedStruct.{c_salvaged}
use Rattle.c_ask.specs.AskStructs.{c_reply}
use Rattle.c_refusals.specs.NoRefusal.{IsAccepted, IsAnswered, StepSays}
use Rattle.mrd_format.specs.declared.rules.Rules.{Rules}

-- a stream's answer, whole or from a cursor on
zero-verdict : (v : Verdict) → NumberedRefusal v → (c_checked v).refusal ≡ 0 → IsAccepted v
zero-verdict (accepted n) v z = (n, refl)
zero-verdict (refused f r b) v z = absurd (omega (arith, v, z))

pub zero_checked : (rules : Rules) (s : List ℕ) → (c_checked (answer rules s)).refusal ≡ 0 → IsAccepted (answer rules s)
zero_checked rules s = zero-verdict (answer rules s) (answer-numbered rules s)

pub zero_checked_from : (rules : Rules) (c : walk.Cursor) (s : List ℕ) → (c_checked (verdict (from rules c s))).refusal ≡ 0 → IsAccepted (verdict (from rules c s))
zero_checked_from rules c s = zero-verdict (verdict (from rules c s)) (from-numbered rules c s)

-- a step
pub zero-step : (rules : Rules) (c : walk.Cursor) (s : List ℕ) → (c_step (step rules c s)).answer.refusal ≡ 0 → StepSays (c_step (step rules c s)).ended (step rules c s)
zero-step rules c s = by (step rules c s) refl
  where
    by : (x : Stepped) → step rules c s ≡ x → (c_step x).answer.refusal ≡ 0 → StepSays (c_step x).ended x
    by (yields l d) e z = (l, (d, refl))
    by (over (accepted n)) e z = (n, refl)
    by (over (refused f r b)) e z = let some : 0 < f = over-numbered rules c s e in absurd (omega (arith, some, z))

-- an answer, of which g is the C struct's refusal
zero-answer : {A : Type 0} (g : Answer A → ℕ) → ((f r b : ℕ) → g (stream f r b) ≡ f) → ((n : ℕ) → g (number n) ≡ n) → (a : Answer A) →
    Refuses 1 a → g a ≡ 0 → IsAnswered a
zero-answer g s n (answered x) r z = (x, refl)
zero-answer g s n (stream f i b) r z = absurd (omega (arith, s f i b, r, z))
zero-answer g s n (number k) r z = absurd (omega (arith, n k, r, z))

some : {A : Type 0} (a : Answer A) → Refuses 16 a → Refuses 1 a
some (answered x) r = r
some (stream f i b) r = r
some (number n) r = omega (arith, r)

-- a record's place, by its number
pub zero_placed : (rules : Rules) (s : List ℕ) (n : ℕ) → (c_placed (place rules s n)).refusal ≡ 0 → IsAnswered (place rules s n)
zero_placed rules s n = zero-answer (λ a. (c_placed a).refusal) (λ f r b. refl) (λ k. refl) (place rules s n) (some (place rules s n) (place_refuses rules s n))

-- a view's place, by the record's number or at a cursor
zero-shown : (a : Answer Located) (p : Part) (s : List ℕ) → Refuses 16 a → (c_view (view_by a p s)).refusal ≡ 0 → IsAnswered (view_by a p s)
zero-shown a p s r = zero-answer (λ x. (c_view x).refusal) (λ f r b. refl) (λ k. refl) (view_by a p s) (some (view_by a p s) (view_refuses a p s r))

pub zero-view : (rules : Rules) (s : List ℕ) (n : ℕ) (p : Part) → (c_view (view_of rules s n p)).refusal ≡ 0 → IsAnswered (view_of rules s n p)
unfolding view_of
zero-view rules s n p = zero-shown (place rules s n) p s (place_refuses rules s n)

pub zero-view-at : (rules : Rules) (c : walk.Cursor) (s : List ℕ) (p : Part) → (c_view (view_by (place_at rules c s) p s)).refusal ≡ 0 → IsAnswered (view_by (place_at rules c s) p s)
zero-view-at rules c s p = zero-shown (place_at rules c s) p s (at_refuses rules c s)

-- a field, likewise
zero_valued : (a : Answer Located) (o : ℕ) (s : List ℕ) → Refuses 16 a → (c_field (field_by a o s)).refusal ≡ 0 → IsAnswered (field_by a o s)
zero_valued a o s r = zero-answer (λ x. (c_field x).refusal) (λ f r b. refl) (λ k. refl) (field_by a o s) (some (field_by a o s) (field_refuses a o s r))

pub zero_field : (rules : Rules) (s : List ℕ) (n o : ℕ) → (c_field (field_of rules s n o)).refusal ≡ 0 → IsAnswered (field_of rules s n o)
unfolding field_of
zero_field rules s n o = zero_valued (place rules s n) o s (place_refuses rules s n)

pub zero-field-at : (rules : Rules) (c : walk.Cursor) (s : List ℕ) (o : ℕ) → (c_field (field_by (place_at rules c s) o s)).refusal ≡ 0 → IsAnswered (field_by (place_at rules c s) o s)
zero-field-at rules c s o = zero_valued (place_at rules c s) o s (at_refuses rules c s)

-- and it has a type
typed : (a : Answer FieldValue) → Refuses 16 a → (c_field a).refusal ≡ 0 → 0 < (c_field a).value_type
typed (answered (whole n)) r z = omega arith
typed (answered (signed n)) r z = omega arith
typed (answered (float n)) r z = omega arith
typed (stream f i b) r z = absurd (omega (arith, r, z))
typed (number n) r z = absurd (omega (arith, r, z))

pub field-typed : (rules : Rules) (s : List ℕ) (n o : ℕ) → (c_field (field_of rules s n o)).refusal ≡ 0 → 0 < (c_field (field_of rules s n o)).value_type
unfolding field_of
field-typed rules s n o = typed (field_by (place rules s n) o s) (field_refuses (place rules s n) o s (place_refuses rules s n))

pub field-at-typed : (rules : Rules) (c : walk.Cursor) (s : List ℕ) (o : ℕ) → (c_field (field_by (place_at rules c s) o s)).refusal ≡ 0 →
    0 < (c_field (field_by (place_at rules c s) o s)).value_type
field-at-typed rules c s o = typed (field_by (place_at rules c s) o s) (field_refuses (place_at rules c s) o s (at_refuses rules c s))

-- what was looked for
pub zero-found : (rules : Rules) (s : List ℕ) (n : ℕ) (cs : List ℕ) → (c_found (find_of rules s n cs)).refusal ≡ 0 → IsAnswered (find_of rules s n cs)
zero-found rules s n cs = zero-answer (λ a. (c_found a).refusal) (λ f r b. refl) (λ k. refl) (find_of rules s n cs) (some (find_of rules s n cs) (find_refuses rules s n cs))

-- what a byte belongs to
pick_refuses : {A : Type 0} (t : Bool) (a b : Answer A) → Refuses 16 a → Refuses 16 b → Refuses 16 (pick t a b)
pick_refuses true a b x y = x
pick_refuses false a b x y = y

holding_refuses : {A : Type 0} (f : A → Extent) (xs : List A) (i : ℕ) → Refuses 16 (holding f xs i)
holding_refuses f [] i = omega arith
holding_refuses f (x ∷ xs) i = pick_refuses (holds (f x) i) (answered x) (holding f xs i) tt (holding_refuses f xs i)

told_refuses : (k : Kind) (at : ℕ) (q : PlacedPart) → Refuses 16 (told k at q)
unfolding header_byte_of
told_refuses k at q =
    let o = at - q.place.offset in
    pick_refuses (same q.part header) _ _
    (then-refuses 16 (header_byte_of k o) _ (then-refuses 16 (holding place_of (header_pieces k) o) _ (holding_refuses place_of (header_pieces k) o) (λ p. tt)) (λ b. tt)) tt

part_refuses : (k : Kind) (h : List ℕ) (at : ℕ) → Refuses 16 (part_holding k h at)
unfolding part_holding
part_refuses k h at =
    then-refuses 16 (holding (λ (q : PlacedPart). q.place) (placed_parts k h) at) (told k at) (holding_refuses (λ (q : PlacedPart). q.place) (placed_parts k h) at)
    (told_refuses k at)

byte_refuses : (rules : Rules) (s : List ℕ) (i : ℕ) → Refuses 16 (part_of_byte rules s i)
unfolding part_of_byte record_holding
byte_refuses rules s i =
    then-refuses 16 (record_holding rules s i) (part_in s i) (unless-refuses 16 (answer rules s) _ (answer-numbered rules s) (holding_refuses extent_at (places (trace rules s)) i))
    (λ l. then-refuses 16 (part_holding l.kind (fixed_part l.kind (part_at s l)) (i - l.start)) _
    (part_refuses l.kind (fixed_part l.kind (part_at s l)) (i - l.start)) (λ h. tt))

pub zero-part : (rules : Rules) (s : List ℕ) (i : ℕ) → (c_part (part_of_byte rules s i)).refusal ≡ 0 → IsAnswered (part_of_byte rules s i)
zero-part rules s i = zero-answer (λ a. (c_part a).refusal) (λ f r b. refl) (λ k. refl) (part_of_byte rules s i) (some (part_of_byte rules s i) (byte_refuses rules s i))

-- a given index
believed_refuses : (b : Bool) → Refuses 1 (believed b)
believed_refuses true = tt
believed_refuses false = omega arith

file_refuses : (rules : Rules) (s file : List ℕ) → Refuses 1 (file_match rules s file)
unfolding file_match
file_refuses rules s file = unless-refuses 1 (answer rules s) _ (answer-numbered rules s) (believed_refuses (equal file (index rules s)))

columns_refuses : (rules : Rules) (s a b c : List ℕ) → Refuses 1 (columns_match rules s a b c)
unfolding columns_match
columns_refuses rules s a b c =
    unless-refuses 1 (answer rules s) _ (answer-numbered rules s)
    (believed_refuses (begins (start_column rules s) a && (begins (id_column rules s) b && begins (counter_column rules s) c)))

zero_matched : (m : Answer (Unit {0})) → Refuses 1 m → (c_matched m).refusal ≡ 0 → IsAnswered m
zero_matched = zero-answer (λ a. (c_matched a).refusal) (λ f r b. refl) (λ k. refl)

pub zero-index-matches : (rules : Rules) (s file : List ℕ) → (c_matched (file_match rules s file)).refusal ≡ 0 → IsAnswered (file_match rules s file)
zero-index-matches rules s file = zero_matched (file_match rules s file) (file_refuses rules s file)

pub zero-columns_match : (rules : Rules) (s a b c : List ℕ) → (c_matched (columns_match rules s a b c)).refusal ≡ 0 → IsAnswered (columns_match rules s a b c)
zero-columns_match rules s a b c = zero_matched (columns_match rules s a b c) (columns_refuses rules s a b c)

-- a cursor from an index's columns
pub zero-cursor_for : (rules : Rules) (starts ids : List ℕ) (n : ℕ) → (c_cursor_answer (cursor_for rules starts ids n)).refusal ≡ 0 → IsAnswered (cursor_for rules starts ids n)
unfolding cursor_for
zero-cursor_for rules starts ids n =
    zero-answer (λ a. (c_cursor_answer a).refusal) (λ f r b. refl) (λ k. refl) (cursor_for rules starts ids n) (by (ltb n (length starts) && ltb n (length ids)) _)
  where
    by : (b : Bool) (c : walk.Cursor) → Refuses 1 (pick b (answered c) (number 16))
    by true c = tt
    by false c = omega arith

-- any question with an index given
zero-asked : (rules : Rules) (s : List ℕ) (m : Answer (Unit {0})) → Refuses 1 m → (q : Question) (cs : List ℕ) → (c_reply (and_then m (λ _. ask_of rules s q cs))).refusal ≡ 0 →
    IsAnswered (and_then m (λ _. ask_of rules s q cs))
zero-asked rules s m r q cs =
    zero-answer (λ a. (c_reply a).refusal) (λ f r b. refl) (λ k. refl) (and_then m (λ _. ask_of rules s q cs))
    (then-refuses 1 m (λ _. ask_of rules s q cs) r (λ x. some (ask_of rules s q cs) (ask_refuses rules s q cs)))

pub zero_ask_file : (rules : Rules) (s file : List ℕ) (q : Question) (cs : List ℕ) → (c_reply (and_then (file_match rules s file) (λ _. ask_of rules s q cs))).refusal ≡ 0 →
    IsAnswered (and_then (file_match rules s file) (λ _. ask_of rules s q cs))
zero_ask_file rules s file = zero-asked rules s (file_match rules s file) (file_refuses rules s file)

pub zero_ask_columns : (rules : Rules) (s a b c : List ℕ) (q : Question) (cs : List ℕ) → (c_reply (and_then (columns_match rules s a b c) (λ _. ask_of rules s q cs))).refusal ≡ 0 →
    IsAnswered (and_then (columns_match rules s a b c) (λ _. ask_of rules s q cs))
zero_ask_columns rules s a b c = zero-asked rules s (columns_match rules s a b c) (columns_refuses rules s a b c)

-- what was written to the front of an output, or to three columns: n, where n are to be written
zero-output : (v : Verdict) (short : Bool) (n : ℕ) → NumberedRefusal v → (c_written (answer_by v short n)).refusal ≡ 0 → answer_by v short n ≡ answered n
zero-output (accepted k) true n v z = absurd (omega (arith, z))
zero-output (accepted k) false n v z = refl
zero-output (refused f r b) short n v z = absurd (omega (arith, v, z))

pub zero-written : (rules : Rules) (s : List ℕ) (n room : ℕ) → (c_written (answer_for rules s n room)).refusal ≡ 0 → answer_for rules s n room ≡ answered n
unfolding answer_for
zero-written rules s n room = zero-output (answer rules s) (ltb room n) n (answer-numbered rules s)

pub zero-filled : (rules : Rules) (s : List ℕ) (a b c : ℕ) → (c_written (columns_answer rules s a b c)).refusal ≡ 0 → columns_answer rules s a b c ≡ answered (length (entries rules s))
unfolding columns_answer
zero-filled rules s a b c =
    let n = length (entries rules s) in zero-output (answer rules s) (ltb a n || (ltb b n || ltb c n)) n (answer-numbered rules s)

-- what was saved of a torn stream: its report, which asked for alone is never refused
pub zero-salvaged : (rules : Rules) (s : List ℕ) (room : ℕ) → (c_salvaged (salvage_answer rules s room)).refusal ≡ 0 → salvage_answer rules s room ≡ answered (report rules s)
unfolding salvage_answer
zero-salvaged rules s room = by (ltb room (length (salvaged rules s)))
  where
    by : (short : Bool) → (c_salvaged (pick short (number 14) (answered (report rules s)))).refusal ≡ 0 →
        pick short (number 14) (answered (report rules s)) ≡ answered (report rules s)
    by true z = absurd (omega (arith, z))
    by false z = refl

-- the position after a message
pub zero-put : (rules : Rules) (id : ℕ) (c : Contents) (at : ℕ) (o : List ℕ) → (c_put (write_answer rules id c at o)).refusal ≡ 0 → IsAnswered (write_answer rules id c at o)
unfolding write_answer answer_as
zero-put rules id c at o = zero-answer (λ a. (c_put a).refusal) (λ f r b. refl) (λ k. refl) _ (by (identified rules id))
  where
    judged : (f n : ℕ) → Refuses 1 (unless f number (answered n))
    judged zero n = tt
    judged (suc f) n = omega arith

    by : (i : Option Kind) → Refuses 1 (answer_as rules.profile i c at o)
    by None = omega arith
    by (Some k) = judged (first (write_checks rules.profile k c at o)) (at + contents_size k c)
