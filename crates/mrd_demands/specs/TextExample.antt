-- Texts that the strict profile refuses, each sort once: the plain profile accepts the stream, and the strict one refuses its second message with 21.
-- Assumes nothing.
use Rattle.std.specs.Prelude.{ℕ, ◌≡◌, refl, List, [], ◌∷◌, ◌++◌, map, length, replicate}
use Rattle.mrd_bytes.specs.Bytes.{index_of, index_after}
use Rattle.mrd_numbers.specs.Little.{num}
use Rattle.mrd_utf8.specs.Fold.{begun, next, utf8_of}
use Rattle.mrd_format.specs.declared.rules.Layout.{Layout}
use Rattle.mrd_format.specs.declared.rules.Profile.{Profile}
use Rattle.mrd_format.specs.declared.rules.Profile.TheVariants.{Plain, Strict}
use Rattle.mrd_format.specs.Kinds.{identified}
use Rattle.mrd_format.specs.Profiles.{rules_by, encoded}
use Rattle.mrd_format.specs.Message.{fixed_part, own_checks, body_size, size_of, name_length, text_length}
use Rattle.mrd_format.specs.Content.{extent_of, contents_of, record_of}
use Rattle.mrd_logic.specs.Answer.{Verdict, accepted, refused}
use Rattle.mrd_stream.specs.Walk.{answer, trace, walk, ended}
use Rattle.mrd_judge.specs.Judge.{judge, judge_as}
use Rattle.mrd_judge.specs.Stages.{checks_as, front_checks, id_checks, fixed_checks, size_checks, text_checks}

-- the configuration name 'µ' with bytes that are not UTF-8 after its zero; a text; and a close
abbrev pub noted : List ℕ → List ℕ
noted t = 1 ∷ 0 ∷ 0xC2 ∷ 0xB5 ∷ 0 ∷ 0xFF ∷ 0xC2 ∷ replicate 1019 0 ++ (5 ∷ 0 ∷ length t ∷ 0 ∷ 0 ∷ 0 ∷ t ++ (4 ∷ 0 ∷ []))

-- U+0000, U+FEFF and a noncharacter; the last character
abbrev pub texts : List (List ℕ)
texts = [] ∷ (0x00 ∷ 0xEF ∷ 0xBB ∷ 0xBF ∷ 0xEF ∷ 0xBF ∷ 0xBE ∷ []) ∷ (0xF4 ∷ 0x8F ∷ 0xBF ∷ 0xBF ∷ []) ∷ []

-- an overlong form, a surrogate, a number above U+10FFFF, a character cut at the end, a stray continuation
abbrev pub others : List (List ℕ)
others =
    (0xC0 ∷ 0x80 ∷ []) ∷
    (0xED ∷ 0xA0 ∷ 0x80 ∷ []) ∷
    (0xF4 ∷ 0x90 ∷ 0x80 ∷ 0x80 ∷ []) ∷
    (0x61 ∷ 0xE2 ∷ 0x82 ∷ []) ∷
    (0x80 ∷ []) ∷
    []

-- the answer to the stream with each of these texts
abbrev answers : Layout → Profile → List (List ℕ) → List Verdict
answers l f ts = map (λ (t : List ℕ). answer (rules_by l f) (noted t)) ts

pub strict_texts : (l : Layout) →
    (answers l Plain texts ≡ replicate 3 (accepted 3)) × (answers l Strict texts ≡ replicate 3 (accepted 3)) ×
    (answers l Plain others ≡ replicate 5 (accepted 3)) × (answers l Strict others ≡ replicate 5 (refused 21 1 1026))
unfolding answer trace walk judge judge_as checks_as front_checks id_checks fixed_checks size_checks text_checks ended identified encoded utf8_of next begun num fixed_part name_length index_of index_after text_length own_checks body_size size_of record_of contents_of extent_of
strict_texts l = (refl, refl, refl, refl)
