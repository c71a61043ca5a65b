-- Two streams that differ in the filler after a configuration name alone: both accepted, with the same records and the same normal form.
-- Assumes nothing.
use Rattle.std.specs.Prelude.{ℕ, ◌≡◌, refl, List, [], ◌∷◌, ◌++◌, replicate}
use Rattle.mrd_bytes.specs.Bytes.{index_of, index_after}
use Rattle.mrd_numbers.specs.Little.{num}
use Rattle.mrd_format.specs.Kinds.{identified}
use Rattle.mrd_format.specs.Profiles.{rules_by, encoded}
use Rattle.mrd_utf8.specs.Fold.{begun, next, utf8_of}
use Rattle.mrd_format.specs.Message.{fixed_part, name_length, own_checks, body_size, size_of}
use Rattle.mrd_format.specs.Content.{extent_of, contents_of, fields_of, record_of, normal_of}
use Rattle.mrd_logic.specs.Answer.{accepted}
use Rattle.mrd_stream.specs.Walk.{answer, trace, walk, ended}
use Rattle.mrd_judge.specs.Judge.{judge, judge_as}
use Rattle.mrd_judge.specs.Stages.{checks_as, front_checks, id_checks, fixed_checks, size_checks, text_checks}
use Rattle.mrd_demands.specs.Records.{records}
use Rattle.mrd_stream.specs.Normal.{normal}
use Rattle.mrd_format.specs.declared.rules.Layout.{Layout}
use Rattle.mrd_format.specs.declared.rules.Profile.{Profile}
use Rattle.mrd_format.specs.declared.rules.Profile.TheVariants.{Plain, Strict}

-- the configuration name 'a', with this byte among the filler, and a close
abbrev pub named : ℕ → List ℕ
named filler = 1 ∷ 0 ∷ 97 ∷ 0 ∷ filler ∷ replicate 1021 0 ++ (4 ∷ 0 ∷ [])

pub filler_is_no-meaning : (l : Layout) (f : Profile) →
    (answer (rules_by l f) (named 7) ≡ accepted 2) ×
    (answer (rules_by l f) (named 0) ≡ accepted 2) × (records (rules_by l f) (named 7) ≡ records (rules_by l f) (named 0)) ×
    (normal (rules_by l f) (named 7) ≡ named 0)
unfolding answer trace walk judge judge_as checks_as front_checks id_checks fixed_checks size_checks text_checks ended identified encoded utf8_of next begun num fixed_part name_length index_of index_after own_checks body_size size_of records record_of fields_of contents_of extent_of normal normal_of
filler_is_no-meaning l Plain = (refl, refl, refl, refl)
filler_is_no-meaning l Strict = (refl, refl, refl, refl)
