-- Bytes of a small stream, and of each header, with what they belong to (request E12), computed.
-- Assumes nothing.
use Rattle.std.specs.Prelude.{ℕ, ◌≡◌, refl, [], ◌∷◌, ◌++◌, map, Option, Some, None}
use Rattle.mrd_bytes.specs.Bytes.{index_of, index_after}
use Rattle.mrd_numbers.specs.Little.{num}
use Rattle.mrd_utf8.specs.Fold.{begun, next, utf8_of}
use Rattle.mrd_logic.specs.Answer.{Answer, answered, number, and_then}
use Rattle.mrd_format.specs.declared.kind.Kind.TheVariants.{Acquisition, Image, Waveform}
use Rattle.mrd_format.specs.declared.rules.Layout.{Layout}
use Rattle.mrd_format.specs.declared.rules.Layout.TheVariants.{Packed, Aligned}
use Rattle.mrd_format.specs.declared.rules.Profile.TheVariants.{Strict}
use Rattle.mrd_format.specs.Profiles.{rules_by, encoded}
use Rattle.mrd_format.specs.Parts as part
use Rattle.mrd_format.specs.Parts.{Part}
use Rattle.mrd_format.specs.Kinds.{identified}
use Rattle.mrd_format.specs.Message.{fixed_part, own_checks, body_size, size_of, name_length, text_length}
use Rattle.mrd_format.specs.Content.{extent_of, contents_of, record_of}
use Rattle.mrd_element.specs.declared.byte.ElementPlace.{ElementPlace}
use Rattle.mrd_element.specs.Pieces.{header_byte_of}
use Rattle.mrd_judge.specs.Judge.{judge, judge_as}
use Rattle.mrd_judge.specs.Stages.{checks_as, front_checks, id_checks, fixed_checks, size_checks, text_checks}
use Rattle.mrd_stream.specs.Walk.{answer, trace, walk, ended}
use Rattle.mrd_holding.specs.Held.{part_holding}
use Rattle.mrd_part_at.specs.PartAt.{NamedByte, record_holding, part_of_byte}
use Rattle.mrd_demands.specs.TextExample.{noted}

-- an element by its place
abbrev pub element : ℕ → ℕ → Answer (Option ElementPlace)
element o z = answered (Some (record { offset = o; size = z }))

-- the mask's second word, and its byte before; the last counter; an image's attribute length, and the bytes after its header; an aligned waveform's
-- version, filler and flags, and a packed one's flags
pub header-bytes :
    map (header_byte_of Acquisition) (47 ∷ 48 ∷ 55 ∷ 275 ∷ 340 ∷ []) ++ map (header_byte_of Image) (193 ∷ 197 ∷ 198 ∷ []) ++
    map (header_byte_of (Waveform Aligned)) (1 ∷ 2 ∷ 7 ∷ 8 ∷ 38 ∷ []) ++ map (header_byte_of (Waveform Packed)) (1 ∷ 2 ∷ 31 ∷ []) ≡
    element 40 8 ∷ element 48 8 ∷ element 48 8 ∷ element 274 2 ∷ number 16 ∷ element 190 4 ∷ element 194 4 ∷ number 16 ∷
    element 0 2 ∷ answered None ∷ answered None ∷ element 8 8 ∷ answered None ∷ element 0 2 ∷ element 2 8 ∷ element 30 2 ∷ []
unfolding header_byte_of
header-bytes = refl

-- a record's number, the part, and where that lies
pub record Named : Type 0 where
  pub record-number : ℕ
  pub part : Part
  pub from : ℕ
  pub size : ℕ

abbrev pub named : ℕ → Part → ℕ → ℕ → Answer Named
named n p i z = answered (record { record-number = n; part = p; from = i; size = z })

abbrev pub shortly : Answer NamedByte → Answer Named
shortly a = and_then a (λ b. named b.which.number b.part b.place.start b.place.length)

-- the configuration name 'µ', a text of two bytes and a close: id, name, its zero and the last byte after it; id, length and text; the close; and past
-- the end
pub stream-bytes : (l : Layout) →
    map (λ (i : ℕ). shortly (part_of_byte (rules_by l Strict) (noted (0x68 ∷ 0x69 ∷ [])) i)) (1 ∷ 2 ∷ 3 ∷ 4 ∷ 1025 ∷ 1026 ∷ 1028 ∷ 1031 ∷ 1032 ∷ 1033 ∷ 1034 ∷ 1035 ∷ 1036 ∷ []) ≡
    named 0 part.id 0 2 ∷ named 0 part.name 2 2 ∷ named 0 part.name 2 2 ∷ named 0 part.filler 4 1022 ∷ named 0 part.filler 4 1022 ∷
    named 1 part.id 1026 2 ∷ named 1 part.count 1028 4 ∷ named 1 part.count 1028 4 ∷ named 1 part.text 1032 2 ∷ named 1 part.text 1032 2 ∷
    named 2 part.id 1034 2 ∷ named 2 part.id 1034 2 ∷ number 16 ∷ []
unfolding part_of_byte record_holding part_holding answer trace walk judge judge_as checks_as front_checks id_checks fixed_checks size_checks text_checks ended identified encoded utf8_of next begun num fixed_part name_length index_of index_after text_length own_checks body_size size_of record_of contents_of extent_of
stream-bytes l = refl
