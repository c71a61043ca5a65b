-- The close ends the order: after it no kind is allowed.
-- Assumes nothing.
use Rattle.std.specs.Prelude.{◌≡◌, refl, true, false}
use Rattle.std.proofs.Common.{sym, ◌∙◌}
use Rattle.mrd_format.specs.declared.kind.Kind.{Kind}
use Rattle.mrd_format.specs.declared.kind.Kind.TheVariants.{ConfigurationName, ConfigurationText, HeaderText, Close, Text, Acquisition, Image, Waveform}
use Rattle.mrd_cursor.specs.declared.cursor.Phase.{Phase}
use Rattle.mrd_cursor.specs.declared.cursor.Phase.TheVariants.{Start, Configured, Headed, Closed}
use Rattle.mrd_cursor.specs.Order.{allowed, is_closed}

-- nothing is allowed after a close
closed_allows_none : (k : Kind) → allowed k Closed ≡ false
closed_allows_none ConfigurationName = refl
closed_allows_none ConfigurationText = refl
closed_allows_none HeaderText = refl
closed_allows_none Close = refl
closed_allows_none Text = refl
closed_allows_none Acquisition = refl
closed_allows_none Image = refl
closed_allows_none (Waveform l) = refl

-- a phase that allows anything is not the close's
pub allowed_open : (k : Kind) (p : Phase) → allowed k p ≡ true → is_closed p ≡ false
allowed_open k Start a = refl
allowed_open k Configured a = refl
allowed_open k Headed a = refl
allowed_open k Closed a = sym a ∙ closed_allows_none k
