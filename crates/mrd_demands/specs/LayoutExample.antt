-- One stream accepted under both layouts, with different records: nothing in a stream tells which layout it uses.
-- Assumes nothing.
use Rattle.std.specs.Prelude.{ℕ, ◌≡◌, refl, List, [], ◌∷◌, ◌++◌, map, length, replicate}
use Rattle.mrd_numbers.specs.Little.{num}
use Rattle.mrd_format.specs.declared.rules.Layout.{Layout}
use Rattle.mrd_format.specs.declared.rules.Layout.TheVariants.{Packed, Aligned}
use Rattle.mrd_format.specs.declared.rules.Profile.TheVariants.{Plain}
use Rattle.mrd_format.specs.declared.rules.Rules.{Rules}
use Rattle.mrd_format.specs.Kinds.{identified}
use Rattle.mrd_format.specs.Profiles.{rules_by, encoded}
use Rattle.mrd_utf8.specs.Fold.{begun, next, utf8_of}
use Rattle.mrd_format.specs.Waveform as waveform
use Rattle.mrd_format.specs.Message.{fixed_part, own_checks, body_size, size_of, text_length}
use Rattle.mrd_format.specs.Content.{Record, extent_of, contents_of, fields_of, record_of}
use Rattle.mrd_logic.specs.Answer.{accepted}
use Rattle.mrd_stream.specs.Walk.{answer, trace, walk, ended}
use Rattle.mrd_judge.specs.Judge.{judge, judge_as}
use Rattle.mrd_judge.specs.Stages.{checks_as, front_checks, id_checks, fixed_checks, size_checks, text_checks}
use Rattle.mrd_demands.specs.Records.{records}

-- a header text of no bytes; a waveform, which as packed has two samples of one channel in 8 bytes of data, and as aligned no sample; a close
abbrev pub ambiguous : List ℕ
ambiguous =
    3 ∷ 0 ∷ 0 ∷ 0 ∷ 0 ∷ 0 ∷
    2 ∷ 4 ∷ 1 ∷ 0 ∷ replicate 20 0 ++ (2 ∷ 0 ∷ 1 ∷ 0 ∷ replicate 14 0 ++ (
    4 ∷ 0 ∷ []))

abbrev by : Layout → Rules
by l = rules_by l Plain

-- how much waveform data each record has
abbrev data_in : List Record → List ℕ
data_in rs = map (λ (r : Record). length r.parts.waveform) rs

pub accepted_under_both :
    (answer (by Packed) ambiguous ≡ accepted 3) × (data_in (records (by Packed) ambiguous) ≡ 0 ∷ 8 ∷ 0 ∷ []) ×
    (answer (by Aligned) ambiguous ≡ accepted 3) × (data_in (records (by Aligned) ambiguous) ≡ 0 ∷ 0 ∷ 0 ∷ [])
unfolding answer trace walk judge judge_as checks_as front_checks id_checks fixed_checks size_checks text_checks ended identified encoded utf8_of next begun num fixed_part own_checks body_size size_of text_length records record_of fields_of contents_of extent_of waveform.checks waveform.body_size
accepted_under_both = (refl, refl, refl, refl)
