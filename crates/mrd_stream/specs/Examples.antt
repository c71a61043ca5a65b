-- The worked examples of the paper's 'Both sides of each line', those marked P, as a single list under one claim; with the paper's whole index.
-- Assumes nothing.
use Rattle.std.specs.Prelude.{ℕ, ◌≡◌, refl, List, [], ◌∷◌, ◌++◌, replicate, ℤ, pos, negsuc}
use Rattle.mrd_numbers.specs.Little.{num}
use Rattle.mrd_format.specs.declared.kind.Kind.{Kind}
use Rattle.mrd_format.specs.declared.rules.Rules.{Rules}
use Rattle.mrd_format.specs.declared.rules.Layout.{Layout}
use Rattle.mrd_format.specs.declared.rules.Profile.{Profile}
use Rattle.mrd_format.specs.declared.rules.Profile.TheVariants.{Plain, Strict}
use Rattle.mrd_format.specs.Kinds.{identified}
use Rattle.mrd_format.specs.Profiles.{rules_by, encoded}
use Rattle.mrd_utf8.specs.Fold.{begun, next, utf8_of}
use Rattle.mrd_format.specs.Message.{fixed_part, own_checks, body_size, size_of, text_length}
use Rattle.mrd_format.specs.Acquisition as acquisition
use Rattle.mrd_format.specs.Content.{extent_of, contents_of, record_of, counter_of}
use Rattle.mrd_flags.specs.Flags.{flag_set, with_bit, bit}
use Rattle.mrd_counter_step.specs.Counters.{counter_step, signed}
use Rattle.mrd_logic.specs.Answer.{Verdict, accepted, refused}
use Rattle.mrd_stream.specs.Walk.{answer, trace, walk, ended}
use Rattle.mrd_judge.specs.Judge.{judge, judge_as}
use Rattle.mrd_judge.specs.Stages.{checks_as, front_checks, id_checks, fixed_checks, size_checks, text_checks}
use Rattle.mrd_logic.specs.Every.{Every}
use Rattle.mrd_stream.specs.Index.{index, entries}

-- a stream and its answer; a stream and its index; a fixed part and its message's size; a flag alone and the flags' value; two scan counters
-- and their step
pub data Example : Type 0 where
  answers : List ℕ → Verdict → Example
  indexed : List ℕ → List ℕ → Example
  measures : Kind → List ℕ → ℕ → Example
  flags : ℕ → ℕ → Example
  steps : ℕ → ℕ → ℤ → Example

abbrev pub ExampleHolds : Rules → Example → Type 0
ExampleHolds rules (answers s v) = answer rules s ≡ v
ExampleHolds rules (indexed s x) = index rules s ≡ x
ExampleHolds rules (measures k h n) = size_of k h ≡ n
ExampleHolds rules (flags n x) = flag_set n 0 ≡ x
ExampleHolds rules (steps a b z) = counter_step a b ≡ z

-- the header of an acquisition of 256 samples in 2 channels, with this many dimensions
abbrev pub readout : ℕ → List ℕ
readout dimensions =
    1 ∷ replicate 33 0 ++ (0 ∷ 1 ∷ 2 ∷ 0 ∷ 2 ∷ replicate 137 0 ++ (dimensions ∷ replicate 163 0))

-- the paper's index of 57 bytes
abbrev pub paper_index : List ℕ
paper_index =
    0x01 ∷ 0x02 ∷ 0x00 ∷ 0x01 ∷ 0x00 ∷
    0x02 ∷ 0x08 ∷ 0x00 ∷ 0x08 ∷ 0x00 ∷ 0x00 ∷ 0x00 ∷ 0x00 ∷ 0x00 ∷ 0x00 ∷ 0x00 ∷
    0x03 ∷ 0x0E ∷ 0x00 ∷ 0x00 ∷ 0x00 ∷ 0x00 ∷ 0x00 ∷ 0x00 ∷ 0x00 ∷ 0x00 ∷ 0x00 ∷ 0x03 ∷ 0x00 ∷ 0x00 ∷ 0x00 ∷ 0x00 ∷ 0x00 ∷
    0x03 ∷ 0x0E ∷ 0x00 ∷ 0x06 ∷ 0x00 ∷ 0x00 ∷ 0x00 ∷ 0x00 ∷ 0x00 ∷ 0x00 ∷ 0x00 ∷ 0x04 ∷ 0x00 ∷ 0x00 ∷ 0x00 ∷ 0x00 ∷ 0x00 ∷
    0x04 ∷ 0x04 ∷ 0x00 ∷ 0x02 ∷ 0x00 ∷ 0x00 ∷ 0x00 ∷ []

abbrev pub examples : List Example
examples =
    answers (4 ∷ 0 ∷ []) (accepted 1) ∷  -- P1
    answers [] (refused 13 0 0) ∷  -- P2
    answers (4 ∷ []) (refused 1 0 0) ∷  -- P3
    answers (4 ∷ 0 ∷ 0 ∷ []) (refused 12 1 2) ∷  -- P4
    answers (6 ∷ 0 ∷ []) (refused 2 0 0) ∷  -- P5
    answers (3 ∷ 0 ∷ 0 ∷ 0 ∷ 0 ∷ []) (refused 3 0 0) ∷  -- P6
    answers (3 ∷ 0 ∷ 1 ∷ 0 ∷ 0 ∷ 0 ∷ []) (refused 11 0 0) ∷  -- P7
    answers (5 ∷ 0 ∷ 0 ∷ 0 ∷ 0 ∷ 0 ∷ []) (refused 13 1 6) ∷  -- P8
    answers (0xF0 ∷ 3 ∷ []) (refused 12 0 0) ∷  -- P9
    measures Kind.Acquisition (readout 0) 4438 ∷  -- P10
    measures Kind.Acquisition (readout 2) 6486 ∷
    flags 7 64 ∷  -- P11
    steps 4294967295 0 (pos 1) ∷  -- P12
    steps 0 2147483648 (negsuc 2147483647) ∷
    indexed (3 ∷ 0 ∷ 0 ∷ 0 ∷ 0 ∷ 0 ∷ 4 ∷ 0 ∷ []) paper_index ∷  -- 'Index and listing'
    []

-- they hold for each layout and each profile
pub worked_examples : (l : Layout) (f : Profile) → Every (ExampleHolds (rules_by l f)) examples
unfolding answer trace walk judge judge_as checks_as front_checks id_checks fixed_checks size_checks text_checks ended identified encoded utf8_of next begun num fixed_part own_checks body_size size_of text_length acquisition.body_size acquisition.trajectory_size acquisition.channel_size record_of contents_of extent_of flag_set with_bit bit counter_step signed index entries counter_of
worked_examples l Plain =
    (refl, (refl, (refl, (refl, (refl, (refl, (refl, (refl, (refl, (refl, (refl, (refl, (refl, (refl, (refl, tt)))))))))))))))
worked_examples l Strict =
    (refl, (refl, (refl, (refl, (refl, (refl, (refl, (refl, (refl, (refl, (refl, (refl, (refl, (refl, (refl, tt)))))))))))))))
