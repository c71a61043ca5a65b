-- What a given header holds that is no field of the record is disregarded: an image's length of its attributes, a waveform's filler. Headers that agree
-- in the fields get the same answer and leave the same output.
-- Assumes nothing.
use Rattle.std.specs.Prelude.{ℕ, ◌≡◌, List, map, length, take, Some}
use Rattle.std.proofs.Math.Path.{refl}
use Rattle.std.proofs.Common.{sym, ap, ◌∙◌}
use Rattle.mrd_numbers.specs.Little.{num}
use Rattle.mrd_numbers.specs.Laws.{num-take}
use Rattle.mrd_format.specs.declared.rules.Rules.{Rules}
use Rattle.mrd_format.specs.declared.rules.Layout.{Layout}
use Rattle.mrd_format.specs.declared.kind.Kind.{Kind}
use Rattle.mrd_format.specs.declared.kind.Kind.TheVariants.{Image, Waveform}
use Rattle.mrd_format.specs.Kinds.{id_of, identified}
use Rattle.mrd_format.specs.Parts.{Parts, Contents, part_length}
use Rattle.mrd_format.specs.Headers.{field, settled}
use Rattle.mrd_format.specs.Lawful.{SameFields}
use Rattle.mrd_format.proofs.HeaderLaws.{front-fields, settled_same}
use Rattle.mrd_format.specs.Image as image
use Rattle.mrd_format.specs.Image.{Agree}
use Rattle.mrd_format.proofs.ImageLaws.{agree-pixels}
use Rattle.mrd_format.specs.Waveform as waveform
use Rattle.mrd_format.proofs.WaveformLaws as waveforms
use Rattle.mrd_format.specs.Content.{fixed_of, body_of, bytes_after_id, message_of}
use Rattle.mrd_write_checks.specs.WriteChecks.{given_fixed, given_own_checks, given_size, due_lengths, sized_checks, given_checks}
use Rattle.mrd_writer.specs.Write.{contents_size, contents_checks, write_checks, answer_as, output_as, write_answer, write_output}

-- what is given: this header, and these parts
abbrev pub given : List ℕ → Parts → Contents
given h ps = record { header = h; parts = ps }

-- what is given as c and as d makes the same message of kind k, of the same size, of the same parts, and passes the same checks
record Alike (k : Kind) (c d : Contents) : Type 0 where
  message : message_of k c ≡ message_of k d
  size : contents_size k c ≡ contents_size k d
  checks : contents_checks k c ≡ contents_checks k d
  parts : c.parts ≡ d.parts

-- the writer gives the same answer, and leaves the same output
abbrev pub WrittenAlike : Rules → ℕ → Contents → Contents → Type 0
WrittenAlike rules id c d =
    (at : ℕ) (o : List ℕ) → (write_answer rules id c at o ≡ write_answer rules id d at o) × (write_output rules id c at o ≡ write_output rules id d at o)

written_alike : (rules : Rules) (id : ℕ) {k : Kind} {c d : Contents} → identified rules id ≡ Some k → Alike k c d → WrittenAlike rules id c d
unfolding write_answer write_output output_as answer_as write_checks
written_alike rules id {k} {c} {d} known a at o =
    let answers : answer_as rules.profile (Some k) c at o ≡ answer_as rules.profile (Some k) d at o = rw (a.checks, a.size, a.parts) in
    (rw known answers, rw (known, answers, a.message))

-- image headers that agree in all bytes before the length of the attributes
module _ (g h : List ℕ) (ps : Parts) (long : length g ≡ length h) (same : take 194 g ≡ take 194 h) where
  settled-image : settled (part_length (given g ps)) image.cells g ≡ settled (part_length (given h ps)) image.cells h
  settled-image =
      settled_same (part_length (given g ps)) image.cells g h
      (front-fields 194 (map (λ (f : image.Field). field (image.layout f)) image.fields) g h refl same)

  agree : Agree g h
  agree w i fits = sym (num-take w 194 g i fits) ∙ ap (λ (t : List ℕ). num w t i) same ∙ num-take w 194 h i fits

  images-alike : Alike Image (given g ps) (given h ps)
  unfolding message_of bytes_after_id fixed_of body_of given_checks sized_checks given_own_checks given_fixed given_size due_lengths
  images-alike =
      record {
        message = rw settled-image;
        size = rw (agree-pixels g h agree);
        checks = rw (long, settled-image, agree-pixels g h agree);
        parts = refl;
      }

  pub number-disregarded : (rules : Rules) → WrittenAlike rules (id_of Image) (given g ps) (given h ps)
  unfolding identified
  number-disregarded rules = written_alike rules (id_of Image) refl images-alike

-- waveform headers of one layout that agree in the fields
module _ (l : Layout) (g h : List ℕ) (ps : Parts) (long : length g ≡ length h) (same : SameFields (waveform.cells l) g h) where
  settled-waveform : settled (part_length (given g ps)) (waveform.cells l) g ≡ settled (part_length (given h ps)) (waveform.cells l) h
  settled-waveform = settled_same (part_length (given g ps)) (waveform.cells l) g h same

  waveforms-alike : Alike (Waveform l) (given g ps) (given h ps)
  unfolding message_of bytes_after_id fixed_of body_of given_checks sized_checks given_own_checks given_fixed given_size due_lengths
  waveforms-alike =
      record {
        message = rw settled-waveform;
        size = rw (waveforms.same_size l g h same);
        checks = rw (long, settled-waveform, waveforms.same_size l g h same);
        parts = refl;
      }

pub filler_disregarded : (rules : Rules) (g h : List ℕ) (ps : Parts) → length g ≡ length h → SameFields (waveform.cells rules.layout) g h →
    WrittenAlike rules (id_of (Waveform rules.layout)) (given g ps) (given h ps)
unfolding identified
filler_disregarded rules g h ps long same =
    written_alike rules (id_of (Waveform rules.layout)) refl (waveforms-alike rules.layout g h ps long same)
