-- Two streams that differ in the attribute length of an image's header alone, 0 in one and the true length in the other: both accepted, with the same
-- records and the same normal form.
-- Assumes nothing.
use Rattle.std.specs.Prelude.{ℕ, ◌≡◌, refl, List, [], ◌∷◌, ◌++◌, replicate}
use Rattle.mrd_numbers.specs.Little.{num}
use Rattle.mrd_format.specs.Kinds.{identified}
use Rattle.mrd_format.specs.Profiles.{rules_by, encoded}
use Rattle.mrd_utf8.specs.Fold.{begun, next, utf8_of}
use Rattle.mrd_format.specs.Image as image
use Rattle.mrd_format.specs.Message.{fixed_part, text_length, own_checks, body_size, size_of}
use Rattle.mrd_format.specs.Content.{extent_of, contents_of, fields_of, record_of, normal_of}
use Rattle.mrd_logic.specs.Answer.{accepted, refused}
use Rattle.mrd_stream.specs.Walk.{answer, trace, walk, ended}
use Rattle.mrd_judge.specs.Judge.{judge, judge_as}
use Rattle.mrd_judge.specs.Stages.{checks_as, front_checks, id_checks, fixed_checks, size_checks, text_checks}
use Rattle.mrd_demands.specs.Records.{records}
use Rattle.mrd_stream.specs.Normal.{normal}
use Rattle.mrd_format.specs.declared.rules.Layout.{Layout}
use Rattle.mrd_format.specs.declared.rules.Profile.{Profile}
use Rattle.mrd_format.specs.declared.rules.Profile.TheVariants.{Plain, Strict}

-- an empty header text; an image of one 2-byte pixel with the attributes 'ab', whose header says this of their length; and a close
abbrev pub imaged : ℕ → List ℕ
imaged number =
    3 ∷ 0 ∷ 0 ∷ 0 ∷ 0 ∷ 0 ∷
    254 ∷ 3 ∷ 1 ∷ 0 ∷ 1 ∷ 0 ∷ replicate 12 0 ++ (1 ∷ 0 ∷ 1 ∷ 0 ∷ 1 ∷ 0 ∷ replicate 12 0 ++ (1 ∷ 0 ∷ replicate 158 0 ++
    (number ∷ 0 ∷ 0 ∷ 0 ∷ 2 ∷ 0 ∷ 0 ∷ 0 ∷ 0 ∷ 0 ∷ 0 ∷ 0 ∷ 97 ∷ 98 ∷ 5 ∷ 6 ∷ 4 ∷ 0 ∷ [])))

pub number_is_no-meaning : (l : Layout) (f : Profile) → let rules = rules_by l f in
    (answer rules (imaged 0) ≡ accepted 3) × (answer rules (imaged 2) ≡ accepted 3) × (answer rules (imaged 1) ≡ refused 9 1 6) ×
    (records rules (imaged 0) ≡ records rules (imaged 2)) × (normal rules (imaged 0) ≡ imaged 2)
unfolding answer trace walk judge judge_as checks_as front_checks id_checks fixed_checks size_checks text_checks ended identified encoded utf8_of next begun num fixed_part text_length own_checks image.header_checks image.checks image.pixels_size image.pixel_count image.element_size body_size size_of records record_of fields_of contents_of extent_of normal normal_of
number_is_no-meaning l Plain = (refl, refl, refl, refl, refl)
number_is_no-meaning l Strict = (refl, refl, refl, refl, refl)
