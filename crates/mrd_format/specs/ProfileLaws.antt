-- The test of a profile is what it asks; and a message without a text passes it.
-- Assumes nothing.
use Rattle.std.specs.Prelude.{ℕ, ◌≡◌, refl, Bool, true, false, ◌↔◌, List, [], ◌∷◌}
use Rattle.std.proofs.lemmas.Bool.{false≢true}
use Rattle.mrd_utf8.specs.Utf8.{Utf8}
use Rattle.mrd_utf8.specs.Fold.{utf8_of}
use Rattle.mrd_utf8.specs.FoldLaws.{utf8-exactly, utf8-empty}
use Rattle.mrd_logic.specs.Choice.{both}
use Rattle.mrd_logic.specs.Every.{Every}
use Rattle.mrd_format.specs.declared.kind.Kind.{Kind}
use Rattle.mrd_format.specs.declared.kind.Kind.TheVariants.{ConfigurationName, ConfigurationText, HeaderText, Close, Text, Acquisition, Image, Waveform}
use Rattle.mrd_format.specs.declared.rules.Profile.{Profile}
use Rattle.mrd_format.specs.declared.rules.Profile.TheVariants.{Plain, Strict}
use Rattle.mrd_format.specs.Content.{extent_of, contents_of, record_of}
use Rattle.mrd_format.specs.Profiles.{texts_in, Encoded, all_utf8, encoded}

all-utf8 : (ts : List (List ℕ)) → all_utf8 ts ≡ true → Every Utf8 ts
all-utf8 [] e = tt
all-utf8 (t ∷ ts) e = let p = both (utf8_of t) (all_utf8 ts) e in ((utf8-exactly t).0 p.0, all-utf8 ts p.1)

utf8-all : (ts : List (List ℕ)) → Every Utf8 ts → all_utf8 ts ≡ true
utf8-all [] p = refl
utf8-all (t ∷ ts) p = rw ((utf8-exactly t).1 p.0) (utf8-all ts p.1)

pub encoded-exactly : (f : Profile) (ts : List (List ℕ)) → (encoded f ts ≡ true) ↔ Encoded f ts
unfolding encoded
encoded-exactly Plain ts = (λ e. tt, λ p. refl)
encoded-exactly Strict ts = (all-utf8 ts, utf8-all ts)

-- three empty texts
no-texts : Every Utf8 ([] ∷ [] ∷ [] ∷ [])
no-texts = let none = (utf8-exactly []).0 utf8-empty in (none, (none, (none, tt)))

-- a kind without a text passes
abbrev pub textless : Kind → Bool
textless ConfigurationName = false
textless ConfigurationText = false
textless HeaderText = false
textless Close = true
textless Text = false
textless Acquisition = true
textless Image = false
textless (Waveform l) = true

pub textless-encoded : (f : Profile) (k : Kind) → textless k ≡ true → (m : List ℕ) → Encoded f (texts_in (record_of k m).parts)
unfolding record_of contents_of extent_of
textless-encoded Plain k e m = tt
textless-encoded Strict ConfigurationName e m = absurd (false≢true e)
textless-encoded Strict ConfigurationText e m = absurd (false≢true e)
textless-encoded Strict HeaderText e m = absurd (false≢true e)
textless-encoded Strict Close e m = no-texts
textless-encoded Strict Text e m = absurd (false≢true e)
textless-encoded Strict Acquisition e m = no-texts
textless-encoded Strict Image e m = absurd (false≢true e)
textless-encoded Strict (Waveform l) e m = no-texts
