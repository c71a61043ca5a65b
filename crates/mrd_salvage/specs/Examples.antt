-- Small streams, what is saved of each, and the report; computed.
-- Assumes nothing.
use Rattle.std.specs.Prelude.{ℕ, ◌≡◌, refl, Bool, true, false, List, [], ◌∷◌, ◌++◌}
use Rattle.mrd_logic.specs.Every.{Every}
use Rattle.mrd_numbers.specs.Little.{num}
use Rattle.mrd_utf8.specs.Fold.{utf8_of, next, begun}
use Rattle.mrd_format.specs.declared.rules.Layout.{Layout}
use Rattle.mrd_format.specs.declared.rules.Profile.{Profile}
use Rattle.mrd_format.specs.declared.rules.Profile.TheVariants.{Plain, Strict}
use Rattle.mrd_format.specs.declared.rules.Rules.{Rules}
use Rattle.mrd_format.specs.Kinds.{identified}
use Rattle.mrd_format.specs.Texts.{text_length}
use Rattle.mrd_format.specs.Message.{fixed_part, own_checks, body_size, size_of}
use Rattle.mrd_format.specs.Content.{extent_of, contents_of, record_of}
use Rattle.mrd_format.specs.Profiles.{rules_by, encoded}
use Rattle.mrd_judge.specs.Judge.{judge, judge_as}
use Rattle.mrd_judge.specs.Stages.{checks_as, front_checks, id_checks, fixed_checks, size_checks, text_checks}
use Rattle.mrd_stream.specs.Walk.{ended, walk, trace}
use Rattle.mrd_salvage.specs.Salvage.{close_added, kept, salvaged, report}

-- a stream, what is saved of it, and the report's three numbers
pub record Example : Type 0 where
  pub stream : List ℕ
  pub saved : List ℕ
  pub messages : ℕ
  pub lost : ℕ
  pub added : Bool

abbrev pub example : List ℕ → List ℕ → ℕ → ℕ → Bool → Example
example s t k l a = record { stream = s; saved = t; messages = k; lost = l; added = a }

abbrev pub Holds : Rules → Example → Type 0
Holds rules e =
    (salvaged rules e.stream ≡ e.saved) × ((report rules e.stream).messages_kept ≡ e.messages) ×
    ((report rules e.stream).bytes_not_kept ≡ e.lost) × ((report rules e.stream).close_added ≡ e.added)

-- an empty header text, a text of one byte, and the close
abbrev pub header : List ℕ
header = 3 ∷ 0 ∷ 0 ∷ 0 ∷ 0 ∷ 0 ∷ []

abbrev pub text : List ℕ
text = 5 ∷ 0 ∷ 1 ∷ 0 ∷ 0 ∷ 0 ∷ 65 ∷ []

abbrev pub ending : List ℕ
ending = 4 ∷ 0 ∷ []

abbrev pub examples : List Example
examples =
    example [] ending 0 0 true ∷  -- the empty stream
    example (4 ∷ []) ending 0 1 true ∷  -- half a close
    example ending ending 1 0 false ∷  -- accepted
    example (header ++ (text ++ ending)) (header ++ (text ++ ending)) 3 0 false ∷
    example (header ++ text) (header ++ (text ++ ending)) 2 0 true ∷  -- never closed
    example (header ++ (5 ∷ 0 ∷ 1 ∷ 0 ∷ 0 ∷ 0 ∷ [])) (header ++ ending) 1 6 true ∷  -- torn before a text's only byte
    example (header ++ (header ++ ending)) (header ++ ending) 1 8 true ∷  -- out of order, and what follows
    example (ending ++ (0 ∷ [])) ending 1 1 false ∷  -- bytes after a close
    example (header ++ (ending ++ ending)) (header ++ ending) 2 2 false ∷
    []

-- they hold for each layout and each profile
pub saved-examples : (l : Layout) (f : Profile) → Every (Holds (rules_by l f)) examples
unfolding close_added kept salvaged report trace walk judge judge_as checks_as front_checks id_checks fixed_checks size_checks text_checks ended identified encoded utf8_of next begun num fixed_part own_checks body_size size_of text_length record_of contents_of extent_of
saved-examples l Plain =
    ((refl, refl, refl, refl), ((refl, refl, refl, refl), ((refl, refl, refl, refl), ((refl, refl, refl, refl), ((refl, refl, refl, refl), ((refl, refl, refl, refl), ((refl, refl, refl, refl), ((refl, refl, refl, refl), ((refl, refl, refl, refl), tt)))))))))
saved-examples l Strict =
    ((refl, refl, refl, refl), ((refl, refl, refl, refl), ((refl, refl, refl, refl), ((refl, refl, refl, refl), ((refl, refl, refl, refl), ((refl, refl, refl, refl), ((refl, refl, refl, refl), ((refl, refl, refl, refl), ((refl, refl, refl, refl), tt)))))))))
