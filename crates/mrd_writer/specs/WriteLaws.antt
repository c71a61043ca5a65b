-- The writer's answer and output, one law for each way that it ends.
-- Assumes nothing.
use Rattle.std.specs.Prelude.{ℕ, ◌+◌, ◌≤◌, ◌<◌, ◌≡◌, refl, true, false, List, ◌++◌, length, drop, Option, Some, None}
use Rattle.std.proofs.Common.{arith, sym, ◌∙◌, lt-ltb, le-ltb}
use Rattle.std.proofs.Math.Path.{ap}
use Rattle.mrd_numbers.specs.Little.{to_bytes}
use Rattle.mrd_numbers.specs.Stored.{stored, front, part_from, returned, stored_next, stored-part}
use Rattle.mrd_logic.specs.Answer.{Answer, answered, number}
use Rattle.mrd_logic.specs.AnswerLaws.{answered-not-number}
use Rattle.mrd_logic.specs.Checks.{first, unless, without}
use Rattle.mrd_logic.specs.CheckLaws.{first_next, unless-fault, lacking, lacking-append, lacking-without, lacking-never}
use Rattle.mrd_format.specs.declared.rules.Rules.{Rules}
use Rattle.mrd_format.specs.declared.rules.Profile.{Profile}
use Rattle.mrd_format.specs.declared.kind.Kind.{Kind}
use Rattle.mrd_format.specs.Kinds.{id_of, identified}
use Rattle.mrd_format.specs.Parts.{Contents}
use Rattle.mrd_format.specs.Message.{own_checks}
use Rattle.mrd_format.specs.Content.{bytes_after_id, message_of}
use Rattle.mrd_format.specs.Profiles.{texts_in, encoded}
use Rattle.mrd_write_checks.specs.WriteChecks.{lengths_of, given_fixed, given_own_checks, sized_checks, given_checks, judged}
use Rattle.mrd_write_checks.specs.GivenLaws.{unless-number, given-numbered}
use Rattle.mrd_put.specs.Room.{Ready}
use Rattle.mrd_writer.specs.Write.{judged_contents, contents_size, contents_checks, text_checks, room_checks, write_checks, answer_as, output_as, write_answer, write_output}
use Rattle.mrd_writer.specs.Sound.{passed-sound, judged-answered}
use Rattle.mrd_writer.specs.Written.{sound-ready, content-length}

-- both halves of what a function ensures: its answer, and the output as it leaves it
abbrev pub Ends : Profile → Kind → Contents → ℕ → List ℕ → Answer ℕ → List ℕ → Type 0
Ends f k c at o a o' = (a ≡ answer_as f (Some k) c at o) × (o' ≡ output_as f (Some k) c at o)

module _ (f : Profile) (k : Kind) (c : Contents) (at : ℕ) (o : List ℕ) where
  -- the output by the answer
  ends-refused : {x : ℕ} → answer_as f (Some k) c at o ≡ number x → Ends f k c at o (number x) o
  unfolding output_as
  ends-refused e = (sym e, rw e)

  -- what is given is refused
  pub refused-contents : {x : ℕ} → judged_contents k c ≡ number x → Ends f k c at o (number x) o
  unfolding judged answer_as write_checks
  refused-contents e =
      ends-refused
      (unless-number (contents_checks k c) (text_checks f c ++ room_checks at (contents_size k c) o) (contents_size k c) (at + contents_size k c) e)

  -- it passes, and makes a message of size z: check 21 decides, and then 14
  module _ {z : ℕ} (e : judged_contents k c ≡ answered z) where
    late : answer_as f (Some k) c at o ≡ unless (first (text_checks f c ++ room_checks at z o)) number (answered (at + z))
    unfolding answer_as write_checks
    late =
        let d = judged-answered k c e in
        rw (
          first_next (contents_checks k c) (text_checks f c ++ room_checks at (contents_size k c) o)
              (given-numbered k c.header c.parts.name (lengths_of c)) d.0,
          d.1,
        )

    pub not-encoded : encoded f (texts_in c.parts) ≡ false → Ends f k c at o (number 21) o
    not-encoded x = ends-refused (late ∙ rw x)

    last : encoded f (texts_in c.parts) ≡ true → answer_as f (Some k) c at o ≡ unless (first (room_checks at z o)) number (answered (at + z))
    last x = late ∙ rw x

    pub no_room : encoded f (texts_in c.parts) ≡ true → length o < at + z → Ends f k c at o (number 14) o
    no_room x h = ends-refused (last x ∙ rw (lt-ltb _ _ h))

    -- the position, the id and what follows it lie in the output
    pub within : at + z ≤ length o → Ready k c × (at + (2 + length (bytes_after_id k c)) ≤ length o)
    within h =
        let d = judged-answered k c e in
        let s = passed-sound k c d.0 in
        (sound-ready k c s, rw (content-length k c s, d.1) h)

    -- the id put into the part from the position on, and the content into the part after it
    pub room : encoded f (texts_in c.parts) ≡ true → at + z ≤ length o → (id : ℕ) (x y : List ℕ) → id ≡ id_of k → x ≡ to_bytes 2 id ++ drop 2 (part_from at o) →
        y ≡ front (bytes_after_id k c) (part_from (at + 2) (returned at o x)) → Ends f k c at o (answered (at + z)) (returned (at + 2) (returned at o x) y)
    unfolding output_as message_of
    room encodes h id x y i p q =
        let a : answer_as f (Some k) c at o ≡ answered (at + z) = last encodes ∙ rw (le-ltb _ _ h) in
        let first : returned at o x ≡ stored at (to_bytes 2 id) o = stored-part at o (to_bytes 2 id) x p in
        let second : returned (at + 2) (returned at o x) y ≡ stored (at + 2) (bytes_after_id k c) (returned at o x) =
        stored-part (at + 2) (returned at o x) (bytes_after_id k c) y q in
        let whole : stored (at + 2) (bytes_after_id k c) (stored at (to_bytes 2 id) o) ≡ stored at (to_bytes 2 id ++ bytes_after_id k c) o =
        stored_next at (to_bytes 2 id) (bytes_after_id k c) o (omega (arith, (within h).1)) in
        (sym a, rw (a, ← i) (second ∙ ap (stored (at + 2) (bytes_after_id k c)) first ∙ whole))

-- a kind that is known, and an id that is not in the table
pub write_known : (rules : Rules) (id : ℕ) (k : Kind) (c : Contents) (at : ℕ) (o o' : List ℕ) (a : Answer ℕ) → identified rules id ≡ Some k →
    Ends rules.profile k c at o a o' → (a ≡ write_answer rules id c at o) × (o' ≡ write_output rules id c at o)
unfolding write_answer write_output
write_known rules id k c at o o' a e p = (rw e p.0, rw e p.1)

pub write_unknown : (rules : Rules) (id : ℕ) (c : Contents) (at : ℕ) (o : List ℕ) → identified rules id ≡ None →
    (number 2 ≡ write_answer rules id c at o) × (o ≡ write_output rules id c at o)
unfolding write_answer write_output answer_as output_as
write_unknown rules id c at o e = (rw e, rw e)

-- the writer gives no 9: no check of what is given has that number
no_9 : (f : Profile) (k : Kind) (c : Contents) (at : ℕ) (o : List ℕ) → lacking 9 (write_checks f k c at o) ≡ true
unfolding write_checks given_checks sized_checks given_own_checks
no_9 f k c at o =
    let own = own_checks k (given_fixed k c.header c.parts.name (lengths_of c)) in
    lacking-append 9 (contents_checks k c) _
    (lacking-append 9 (sized_checks k c.header c.parts.name (lengths_of c)) _ (lacking-append 9 (without 9 own) _ (lacking-without 9 own) refl) refl)
    refl

pub never_9 : (rules : Rules) (id : ℕ) (c : Contents) (at : ℕ) (o : List ℕ) → write_answer rules id c at o ≡ number 9 → ⊥
unfolding write_answer answer_as
never_9 rules id c at o e = by-id (identified rules id) e
  where
    by-id : (i : Option Kind) → answer_as rules.profile i c at o ≡ number 9 → ⊥
    by-id None e = let z : ◌≡◌ {A = ℕ} 2 9 = cc in omega arith
    by-id (Some k) e =
        let x = first (write_checks rules.profile k c at o) in
        let p = unless-fault x number (answered (at + contents_size k c)) answered-not-number e in
        let nine : x ≡ 9 = cc p.0 in
        let none : ◌≡◌ {A = ℕ} 9 0 = lacking-never 9 (write_checks rules.profile k c at o) (no_9 rules.profile k c at o) nine in
        omega arith
