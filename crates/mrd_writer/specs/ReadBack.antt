-- 'The message reads back where the order allows it': the theorem about the writer and the reader, from the laws of both.
-- Assumes nothing.
use Rattle.std.specs.Prelude.{ℕ, ◌+◌, ◌≤◌, ◌<◌, ◌≡◌, refl, true, List, ◌++◌, length, take, drop, Option, Some, None}
use Rattle.std.proofs.Common.{arith, sym, ap, ◌∙◌, ltb-false, length-take-le, take_at, drop_at}
use Rattle.std.proofs.lemmas.Bool.{not-false}
use Rattle.mrd_numbers.specs.Stored.{stored}
use Rattle.mrd_logic.specs.Answer.{answered}
use Rattle.mrd_logic.specs.AnswerLaws.{answered-not-number}
use Rattle.mrd_logic.specs.Every.{every_split}
use Rattle.mrd_logic.specs.Checks.{first, Passed}
use Rattle.mrd_logic.specs.CheckLaws.{first-passed, passed_first, numbered-append}
use Rattle.mrd_format.specs.declared.rules.Rules.{Rules}
use Rattle.mrd_format.specs.declared.rules.Profile.{Profile}
use Rattle.mrd_format.specs.declared.kind.Kind.{Kind}
use Rattle.mrd_format.specs.Kinds.{identified}
use Rattle.mrd_format.specs.WellFormed.{WellFormed}
use Rattle.mrd_format.specs.Parts.{Contents}
use Rattle.mrd_format.specs.Content.{record_of, message_of, contents_record}
use Rattle.mrd_format.specs.Profiles.{texts_in, Encoded}
use Rattle.mrd_format.specs.ProfileLaws.{encoded-exactly}
use Rattle.mrd_format.proofs.Made.{made-record}
use Rattle.mrd_cursor.specs.declared.cursor.Cursor.{Cursor}
use Rattle.mrd_cursor.specs.Order.{allowed}
use Rattle.mrd_cursor.specs.Cursors.{max_messages, after}
use Rattle.mrd_stream.specs.Walk.{message, walk, from}
use Rattle.mrd_cut.proofs.WalkedLaws.{walk-well}
use Rattle.mrd_write_checks.specs.WriteChecks.{lengths_of}
use Rattle.mrd_write_checks.specs.GivenLaws.{unless-answered, given-numbered}
use Rattle.mrd_writer.specs.Write.{contents_size, contents_checks, text_checks, room_checks, write_checks, answer_as, output_as, write_answer, write_output}
use Rattle.mrd_writer.specs.Sound.{Sound, passed-sound}
use Rattle.mrd_writer.specs.Written.{sound-fitting, message-length, written-well}

-- what the writer left in the output o, by these rules, given the id, c and the position `at`, where it answers the position p
pub record ReadsBack (rules : Rules) (id : ℕ) (c : Contents) (at : ℕ) (o : List ℕ) (p : ℕ) : Type 0 where
  -- the id is in the table, and m is the message of its kind that c makes
  pub kind : Kind
  pub known : identified rules id ≡ Some kind
  pub m : List ℕ
  pub made : m ≡ message_of kind c
  -- it lies in the output from the position on, up to p, and all else there is as it was
  pub end : p ≡ at + length m
  pub there : take (length m) (drop at (write_output rules id c at o)) ≡ m
  pub output : write_output rules id c at o ≡ stored at m o
  -- it is well formed, of that kind, and its record is that of what was given
  pub well : WellFormed rules m
  pub its-kind : well.kind ≡ kind
  pub same-record : record_of kind m ≡ contents_record kind c
  -- and where order and count allow it, a walk over any stream that has it there meets it, and goes on after it
  pub met : (d : Cursor) (s rest : List ℕ) → drop d.start s ≡ m ++ rest → allowed kind d.phase ≡ true → d.number < max_messages →
      from rules d s ≡ message d kind m (walk rules rest 0 (after d kind (length m)))

-- an answer that is no refusal: every check passed
record Passes (f : Profile) (k : Kind) (c : Contents) (at : ℕ) (o : List ℕ) (p : ℕ) : Type 0 where
  sound : Sound k c
  texts : Encoded f (texts_in c.parts)
  end : at + contents_size k c ≡ p
  fits : at + contents_size k c ≤ length o

answered-passes : (f : Profile) (k : Kind) (c : Contents) (at : ℕ) (o : List ℕ) {p : ℕ} → answer_as f (Some k) c at o ≡ answered p → Passes f k c at o p
unfolding answer_as write_checks
answered-passes f k c at o e =
    let own = contents_checks k c in
    let late = text_checks f c ++ room_checks at (contents_size k c) o in
    let d = unless-answered (first (own ++ late)) (at + contents_size k c) e in
    let numbers = numbered-append own late (given-numbered k c.header c.parts.name (lengths_of c)) refl in
    let all = every_split Passed own late (first-passed (own ++ late) numbers d.0) in
    record {
      sound = passed-sound k c (passed_first own all.0);
      texts = (encoded-exactly f _).0 (not-false _ all.1.0);
      end = d.1;
      fits = ltb-false _ _ all.1.1.0;
    }

-- bytes that were stored are there
stored_there : (at : ℕ) (m o : List ℕ) → at + length m ≤ length o → take (length m) (drop at (stored at m o)) ≡ m
unfolding stored
stored_there at m o h =
    rw (drop_at (take at o) (m ++ drop (at + length m) o) at (length-take-le at o (omega arith)))
    (take_at m (drop (at + length m) o) (length m) refl)

-- what we write reads back as the same record
pub written_reads_back : (rules : Rules) (id : ℕ) (c : Contents) (at : ℕ) (o : List ℕ) (p : ℕ) → write_answer rules id c at o ≡ answered p →
    ReadsBack rules id c at o p
unfolding write_answer write_output answer_as output_as
written_reads_back rules id c at o p e = by-id (identified rules id) refl e
  where
    by-id : (i : Option Kind) → identified rules id ≡ i → answer_as rules.profile i c at o ≡ answered p → ReadsBack rules id c at o p
    by-id None n e = absurd (answered-not-number (sym e))
    by-id (Some k) n e =
        let s = answered-passes rules.profile k c at o e in
        let long : length (message_of k c) ≡ contents_size k c = message-length k c s.sound in
        let left : write_output rules id c at o ≡ stored at (message_of k c) o = rw (n, e) in
        let well : WellFormed rules (message_of k c) = written-well rules id k c n s.sound s.texts in
        record {
          kind = k;
          known = n;
          m = message_of k c;
          made = refl;
          end = sym s.end ∙ ap (λ (z : ℕ). at + z) (sym long);
          there = rw left (stored_there at (message_of k c) o (rw long s.fits));
          output = left;
          well = well;
          its-kind = refl;
          same-record = made-record k c (sound-fitting k c s.sound);
          met = λ d t rest q a b. ap (λ (u : List ℕ). walk rules u 0 d) q ∙ walk-well d (message_of k c) rest well a b;
        }
