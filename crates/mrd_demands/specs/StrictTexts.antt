-- A record whose texts are UTF-8, and two rules by which a stream reads the same.
-- Assumes nothing.
use Rattle.std.specs.Prelude.{ℕ, ◌≡◌, List}
use Rattle.mrd_utf8.specs.Utf8.{Utf8}
use Rattle.mrd_logic.specs.Every.{Every}
use Rattle.mrd_format.specs.declared.rules.Rules.{Rules}
use Rattle.mrd_format.specs.Content.{Record}
use Rattle.mrd_format.specs.Profiles.{texts_in}
use Rattle.mrd_stream.specs.Places.{place}
use Rattle.mrd_stream.specs.Normal.{normal}
use Rattle.mrd_stream.specs.Index.{index}
use Rattle.mrd_demands.specs.Records.{records}

-- each text of a record is UTF-8
abbrev pub TextsAreUtf8 : Record → Type 0
TextsAreUtf8 r = Every Utf8 (texts_in r.parts)

-- what is read of s by either rules is the same
pub record ReadAlike (a b : Rules) (s : List ℕ) : Type 0 where
  pub same-places : (i : ℕ) → place a s i ≡ place b s i
  pub same-records : records a s ≡ records b s
  pub same-normal : normal a s ≡ normal b s
  pub same_index : index a s ≡ index b s
