-- The profiles: which parts of a record are text, and what each profile asks of them.
-- Assumes nothing.
use Rattle.std.specs.Prelude.{ℕ, Bool, true, ◌&&◌, List, [], ◌∷◌, map}
use Rattle.mrd_utf8.specs.Utf8.{Utf8}
use Rattle.mrd_utf8.specs.Fold.{utf8_of}
use Rattle.mrd_logic.specs.Every.{Every}
use Rattle.mrd_format.specs.declared.rules.Layout.{Layout}
use Rattle.mrd_format.specs.declared.rules.Rules.{Rules}
use Rattle.mrd_format.specs.declared.rules.Profile.{Profile}
use Rattle.mrd_format.specs.declared.rules.Profile.TheVariants.{Plain, Strict}
use Rattle.mrd_format.specs.Parts.{Part, name, text, attributes, Parts, part_in}

-- what a caller says of a whole stream
abbrev pub rules_by : Layout → Profile → Rules
rules_by l f = record { layout = l; profile = f }

-- 'names, configuration texts, header texts, texts and attributes'
abbrev pub text_parts : List Part
text_parts = name ∷ text ∷ attributes ∷ []

-- the bytes of each; those that a kind lacks are empty
abbrev pub texts_in : Parts → List (List ℕ)
texts_in ps = map (part_in ps) text_parts

-- 'must be well-formed UTF-8 by RFC 3629', each by itself; the plain profile asks nothing of these texts
abbrev pub Encoded : Profile → List (List ℕ) → Type 0
Encoded Plain ts = Unit {0}
Encoded Strict ts = Every Utf8 ts

-- the same as a test
abbrev pub all_utf8 : List (List ℕ) → Bool
all_utf8 [] = true
all_utf8 (t ∷ ts) = utf8_of t && all_utf8 ts

unfoldable pub encoded : Profile → List (List ℕ) → Bool
encoded Plain ts = true
encoded Strict ts = all_utf8 ts
