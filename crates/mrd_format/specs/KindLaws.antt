-- An acquisition is known by its id, whatever the rules.
-- Assumes nothing.
use Rattle.std.proofs.Common.{arith}
use Rattle.std.specs.Prelude.{◌≡◌, refl}
use Rattle.mrd_format.specs.declared.kind.Kind.{Kind}
use Rattle.mrd_format.specs.declared.kind.Kind.TheVariants.{ConfigurationName, ConfigurationText, HeaderText, Close, Text, Acquisition, Image, Waveform}
use Rattle.mrd_format.specs.Kinds.{id_of}

-- the kind with an acquisition's id is an acquisition
pub acquisition_of_id : (k : Kind) → id_of k ≡ id_of Acquisition → k ≡ Acquisition
acquisition_of_id Acquisition e = refl
acquisition_of_id ConfigurationName e = absurd (omega arith)
acquisition_of_id ConfigurationText e = absurd (omega arith)
acquisition_of_id HeaderText e = absurd (omega arith)
acquisition_of_id Close e = absurd (omega arith)
acquisition_of_id Text e = absurd (omega arith)
acquisition_of_id Image e = absurd (omega arith)
acquisition_of_id (Waveform l) e = absurd (omega arith)
