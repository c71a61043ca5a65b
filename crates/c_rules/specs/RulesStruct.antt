-- The rules that a C struct stands for.
-- Assumes nothing.
use Rattle.std.specs.Prelude.{Bool, true, false}
use Rattle.mrd_format.specs.declared.rules.Layout.{Layout}
use Rattle.mrd_format.specs.declared.rules.Layout.TheVariants.{Packed, Aligned}
use Rattle.mrd_format.specs.declared.rules.Profile.{Profile}
use Rattle.mrd_format.specs.declared.rules.Profile.TheVariants.{Plain, Strict}
use Rattle.mrd_format.specs.declared.rules.Rules as format
use Rattle.c_rules.specs.declared.Rules.{Rules}

abbrev pub layout_of : Bool → Layout
layout_of true = Aligned
layout_of false = Packed

abbrev pub profile_of : Bool → Profile
profile_of true = Strict
profile_of false = Plain

abbrev pub rules_of : Rules → format.Rules
rules_of r = record { layout = layout_of r.aligned_waveforms; profile = profile_of r.strict_text }
