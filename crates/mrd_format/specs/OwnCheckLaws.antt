-- No check of a message has the number 0, which stands for 'no refusal'.
-- Assumes nothing.
use Rattle.std.specs.Prelude.{ℕ, ◌≡◌, refl, true, List}
use Rattle.mrd_logic.specs.CheckLaws.{numbered}
use Rattle.mrd_format.specs.declared.kind.Kind.{Kind}
use Rattle.mrd_format.specs.declared.kind.Kind.TheVariants.{ConfigurationName, ConfigurationText, HeaderText, Close, Text, Acquisition, Image, Waveform}
use Rattle.mrd_format.specs.Message.{own_checks}
use Rattle.mrd_format.specs.Acquisition as acquisition
use Rattle.mrd_format.specs.Image as image
use Rattle.mrd_format.specs.Waveform as waveform

-- no check of a message has the number 0
pub own-numbered : (k : Kind) (h : List ℕ) → numbered (own_checks k h) ≡ true
unfolding own_checks acquisition.checks image.header_checks image.checks waveform.checks
own-numbered ConfigurationName h = refl
own-numbered ConfigurationText h = refl
own-numbered HeaderText h = refl
own-numbered Close h = refl
own-numbered Text h = refl
own-numbered Acquisition h = refl
own-numbered Image h = refl
own-numbered (Waveform l) h = refl
