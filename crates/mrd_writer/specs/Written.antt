-- The message that the writer makes of what it is given, read again: its lengths are those that were given, and it is well formed.
-- Assumes nothing.
use Rattle.std.specs.Prelude.{ℕ, ◌+◌, ◌≡◌, refl, true, List, [], ◌++◌, length, Some}
use Rattle.std.proofs.Common.{le_of_eq, arith, sym, ap, ap₂, ◌∙◌, inr, append-nil}
use Rattle.mrd_numbers.specs.Little.{to_bytes, num}
use Rattle.mrd_numbers.specs.HalfLaws.{read_after_write}
use Rattle.mrd_logic.specs.Every.{Every}
use Rattle.mrd_logic.specs.Checks.{first, Passed}
use Rattle.mrd_logic.specs.CheckLaws.{passed_first}
use Rattle.mrd_format.specs.declared.rules.Layout.{Layout}
use Rattle.mrd_format.specs.declared.rules.Rules.{Rules}
use Rattle.mrd_format.specs.declared.kind.Kind.{Kind}
use Rattle.mrd_format.specs.declared.kind.Kind.TheVariants.{ConfigurationName, ConfigurationText, HeaderText, Close, Text, Acquisition, Image, Waveform}
use Rattle.mrd_format.specs.Kinds.{id_of, identified}
use Rattle.mrd_format.specs.IdLaws.{known-id}
use Rattle.mrd_format.specs.Segments.{name_length}
use Rattle.mrd_format.specs.Texts.{text_length}
use Rattle.mrd_format.specs.Message.{id_at, fixed_part, own_checks, body_size, size_of}
use Rattle.mrd_format.specs.WellFormed.{WellFormed}
use Rattle.mrd_format.specs.Parts.{Contents, part_length}
use Rattle.mrd_format.specs.Acquisition as acquisition
use Rattle.mrd_format.specs.Image as image
use Rattle.mrd_format.specs.Waveform as waveform
use Rattle.mrd_format.specs.Headers.{Cell, settled}
use Rattle.mrd_format.specs.Lawful.{lawful}
use Rattle.mrd_format.proofs.HeaderLaws.{acquisition-lawful, image_lawful, waveform-lawful, settled-long, whole-settled}
use Rattle.mrd_format.proofs.WaveformLaws.{waveform-settled, cleared-fields, same_size}
use Rattle.mrd_format.proofs.ImageLaws.{agree-pixels, made-agrees, made-number, made-count, number-passes}
use Rattle.mrd_format.specs.Content.{segments_of, extent_of, part_size, settled_by, fixed_of, bytes_after_id, message_of, Record, record_of, contents_record}
use Rattle.mrd_format.specs.Profiles.{texts_in, Encoded}
use Rattle.mrd_format.specs.Fitting.{Holds, Fitting}
use Rattle.mrd_format.proofs.Made.{made-length, fixed-length, made-fixed, made-record}
use Rattle.mrd_write_checks.specs.declared.lengths.Lengths.{Lengths}
use Rattle.mrd_write_checks.specs.WriteChecks.{given_fixed, of_writer, given_own_checks, given_size, part_lengths, length_list, lengths_by, lengths_of, due_lengths}
use Rattle.mrd_write_checks.specs.NameLaws.{name_bounds, name-ends}
use Rattle.mrd_put.specs.Room.{Ready}
use Rattle.mrd_writer.specs.Write.{contents_size}
use Rattle.mrd_writer.specs.Sound.{Sound, text-small, attributes-small}

-- the id reads back
written-id : (k : Kind) (c : Contents) → id_at (message_of k c) ≡ id_of k
unfolding num message_of
written-id ConfigurationName c = refl
written-id ConfigurationText c = refl
written-id HeaderText c = refl
written-id Close c = refl
written-id Text c = refl
written-id Acquisition c = refl
written-id Image c = refl
written-id (Waveform l) c = refl

-- so by rules that gave its kind, the message is of that kind again
pub written_known : (rules : Rules) (id : ℕ) (k : Kind) (c : Contents) → identified rules id ≡ Some k → identified rules (id_at (message_of k c)) ≡ Some k
written_known rules id k c known = rw (written-id k c, ← known-id rules id known) known

-- the checked fixed part is the one that is made
checked_is_made : (k : Kind) (c : Contents) → given_fixed k c.header c.parts.name (lengths_of c) ≡ fixed_of k c
unfolding given_fixed fixed_of
checked_is_made ConfigurationName c = refl
checked_is_made ConfigurationText c = refl
checked_is_made HeaderText c = refl
checked_is_made Close c = refl
checked_is_made Text c = refl
checked_is_made Acquisition c = refl
checked_is_made Image c = refl
checked_is_made (Waveform l) c = refl

-- a name's zeros begin after it
name-length : (c : Contents) → Sound ConfigurationName c → name_length (fixed_of ConfigurationName c) ≡ length c.parts.name
unfolding given_own_checks
name-length c s = rw (checked_is_made ConfigurationName c) at (name-ends c.header c.parts.name (lengths_of c) s.own.0)

-- a text's length reads back
text-length : (k : Kind) (c : Contents) → Sound k c → text_length (to_bytes 4 (length c.parts.text)) ≡ length c.parts.text
unfolding text_length
text-length k c s = rw append-nil at (read_after_write 4 (length c.parts.text) [] [] (omega (arith, text-small k c s)))

-- an image's length reads back in both places, and its pixels are those that its header says
module _ (c : Contents) (s : Sound Image c) where
  abbrev count : List ℕ
  count = to_bytes 8 (length c.parts.attributes)

  image-length : image.attribute_length (settled (part_length c) image.cells c.header ++ count) ≡ length c.parts.attributes
  image-length = made-count (part_length c) c.header (length c.parts.attributes) s.header (omega (arith, attributes-small Image c s))

  image-number : image.get image.attribute-string-len (settled (part_length c) image.cells c.header ++ count) ≡ length c.parts.attributes
  image-number = made-number (part_length c) c.header count s.header (omega (arith, attributes-small Image c s))

  image_pixels : image.pixels_size (settled (part_length c) image.cells c.header ++ count) ≡ image.pixels_size c.header
  image_pixels = agree-pixels _ c.header (made-agrees (part_length c) c.header count s.header)

-- an acquisition's fixed part is the header that was given
acquisition-fixed : (c : Contents) → Sound Acquisition c → fixed_of Acquisition c ≡ c.header
unfolding fixed_of
acquisition-fixed c s = whole-settled (part_length c) 340 acquisition.cells c.header refl acquisition-lawful s.header

-- a waveform's has as much data as the header that was given says
waveform-size : (l : Layout) (c : Contents) → Sound (Waveform l) c →
    waveform.body_size l (settled (part_length c) (waveform.cells l) c.header) ≡ waveform.body_size l c.header
waveform-size l c s =
    ap (waveform.body_size l) (waveform-settled (part_length c) l c.header) ∙ same_size l _ c.header (cleared-fields l c.header s.header)

-- the lengths that the fixed part says are those that were given
sound-sizes : (k : Kind) (c : Contents) → Sound k c → lengths_by (part_size k (fixed_of k c)) ≡ lengths_of c
unfolding extent_of fixed_of due_lengths
sound-sizes ConfigurationName c s = ap (λ (n : ℕ). part_lengths n 0 0 0 0 0 0) (name-length c s) ∙ sym s.lengths
sound-sizes ConfigurationText c s = ap (λ (n : ℕ). part_lengths 0 n 0 0 0 0 0) (text-length ConfigurationText c s) ∙ sym s.lengths
sound-sizes HeaderText c s = ap (λ (n : ℕ). part_lengths 0 n 0 0 0 0 0) (text-length HeaderText c s) ∙ sym s.lengths
sound-sizes Close c s = sym s.lengths
sound-sizes Text c s = ap (λ (n : ℕ). part_lengths 0 n 0 0 0 0 0) (text-length Text c s) ∙ sym s.lengths
sound-sizes Acquisition c s = ap (λ (h : List ℕ). lengths_by (part_size Acquisition h)) (acquisition-fixed c s) ∙ sym s.lengths
sound-sizes Image c s = ap₂ (λ (n p : ℕ). part_lengths 0 0 0 0 n p 0) (image-length c s) (image_pixels c s) ∙ sym s.lengths
sound-sizes (Waveform l) c s = ap (λ (n : ℕ). part_lengths 0 0 0 0 0 0 n) (waveform-size l c s) ∙ sym s.lengths

-- one of them
has : (k : Kind) (c : Contents) → Sound k c → (f : Lengths → ℕ) →
    f (lengths_by (part_size k (fixed_of k c))) ≡ f (lengths_of c)
has k c s f = ap f (sound-sizes k c s)

-- a header with the true lengths in it is as long as the one that was given
header-long : (c : Contents) (n : ℕ) (cs : List Cell) → lawful 0 n cs ≡ true → length c.header ≡ n → length (settled (part_length c) cs c.header) ≡ n
header-long c n cs p e = settled-long (part_length c) n cs c.header p (le_of_eq (sym e))

-- so each segment's bytes are as many as it says
sound-holds : (k : Kind) (c : Contents) → Sound k c → Every (Holds (fixed_of k c) (settled_by k (part_length c) c)) (segments_of k (fixed_of k c))
unfolding extent_of given_own_checks
sound-holds ConfigurationName c s = ((name-length c s, omega (arith, name_bounds c.parts.name s.own.0)), tt)
sound-holds ConfigurationText c s = (tt, (sym (has ConfigurationText c s (λ n. n.text)), tt))
sound-holds HeaderText c s = (tt, (sym (has HeaderText c s (λ n. n.text)), tt))
sound-holds Close c s = tt
sound-holds Text c s = (tt, (sym (has Text c s (λ n. n.text)), tt))
sound-holds Acquisition c s = (header-long c 340 acquisition.cells acquisition-lawful s.header, (sym (has Acquisition c s (λ n. n.trajectory)), (sym (has Acquisition c s (λ n. n.samples)), tt)))
sound-holds Image c s = (header-long c 198 image.cells image_lawful s.header, (tt, (sym (has Image c s (λ n. n.attributes)), (sym (has Image c s (λ n. n.pixels)), tt))))
sound-holds (Waveform l) c s = (header-long c (waveform.header_bytes l) (waveform.cells l) (waveform-lawful l) s.header, (sym (has (Waveform l) c s (λ n. n.waveform)), tt))

pub sound-fitting : (k : Kind) (c : Contents) → Sound k c → Fitting k c
sound-fitting k c s = record { header = s.header; holds = sound-holds k c s; sizes = ap length_list (sound-sizes k c s) }

-- what passes is ready to be put
pub sound-ready : (k : Kind) (c : Contents) → Sound k c → Ready k c
sound-ready k c s =
    record {
      header = s.header;
      fixed = fixed-length k c (sound-fitting k c s);
      text = omega (arith, text-small k c s);
      attributes = omega (arith, attributes-small k c s);
    }

-- the checks of the fixed part that the writer makes passed
own-passed : (k : Kind) (c : Contents) → Sound k c → Every Passed (of_writer (own_checks k (fixed_of k c)))
unfolding given_own_checks
own-passed k c s = rw (← checked_is_made k c) s.own.1

-- and check 9, which it does not make, passes: the number that it writes in an image's header is the true length
pub written-own : (k : Kind) (c : Contents) → Sound k c → first (own_checks k (fixed_of k c)) ≡ 0
unfolding fixed_of own_checks acquisition.checks image.checks image.header_checks waveform.checks
written-own ConfigurationName c s = passed_first (own_checks ConfigurationName (fixed_of ConfigurationName c)) (own-passed ConfigurationName c s)
written-own ConfigurationText c s = refl
written-own HeaderText c s = refl
written-own Close c s = refl
written-own Text c s = refl
written-own Acquisition c s = passed_first (own_checks Acquisition (fixed_of Acquisition c)) (own-passed Acquisition c s)
written-own Image c s =
    let own = own-passed Image c s in
    let true-number = number-passes _ _ (inr (image-number c s ∙ sym (image-length c s))) in
    passed_first (own_checks Image (fixed_of Image c)) (own.0, (own.1.0, (true-number, tt)))
written-own (Waveform l) c s = passed_first (own_checks (Waveform l) (fixed_of (Waveform l) c)) (own-passed (Waveform l) c s)

-- the size by the fixed part is that by what was given
pub written-size : (k : Kind) (c : Contents) → Sound k c → size_of k (fixed_of k c) ≡ contents_size k c
unfolding size_of body_size given_size due_lengths fixed_of
written-size ConfigurationName c s = refl
written-size ConfigurationText c s = omega (arith, text-length ConfigurationText c s)
written-size HeaderText c s = omega (arith, text-length HeaderText c s)
written-size Close c s = refl
written-size Text c s = omega (arith, text-length Text c s)
written-size Acquisition c s = ap (size_of Acquisition) (acquisition-fixed c s) ∙ omega arith
written-size Image c s = omega (arith, image-length c s, image_pixels c s)
written-size (Waveform l) c s = omega (arith, waveform-size l c s)

-- the whole, id included; and what follows the id
pub message-length : (k : Kind) (c : Contents) → Sound k c → length (message_of k c) ≡ contents_size k c
message-length k c s = made-length k c (sound-fitting k c s) ∙ written-size k c s

pub content-length : (k : Kind) (c : Contents) → Sound k c → 2 + length (bytes_after_id k c) ≡ contents_size k c
unfolding message_of
content-length k c s = omega (arith, message-length k c s)

-- its texts are those that were given
pub written-texts : (k : Kind) (c : Contents) → Sound k c → texts_in (record_of k (message_of k c)).parts ≡ texts_in c.parts
unfolding contents_record
written-texts k c s = ap (λ (r : Record). texts_in r.parts) (made-record k c (sound-fitting k c s))

-- so what is written by rules that gave the kind is a well-formed message
abbrev pub written-well : (rules : Rules) (id : ℕ) (k : Kind) (c : Contents) → identified rules id ≡ Some k → Sound k c →
    Encoded rules.profile (texts_in c.parts) → WellFormed rules (message_of k c)
written-well rules id k c known s texts =
    let fixed : fixed_part k (message_of k c) ≡ fixed_of k c = made-fixed k c (sound-fitting k c s) in
    let size : size_of k (fixed_part k (message_of k c)) ≡ contents_size k c = rw fixed (written-size k c s) in
    record {
      kind = k;
      known = written_known rules id k c known;
      sound = rw fixed (written-own k c s);
      small = rw size s.small;
      whole = size ∙ sym (message-length k c s);
      encoded = rw (written-texts k c s) texts;
    }
