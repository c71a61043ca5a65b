-- A kind without the layout of its header, and the kind that the rules of a stream make of it.
-- Assumes nothing.
use Rattle.std.specs.Prelude.{◌≡◌, refl}
use Rattle.std.proofs.Common.{ap, sym}
use Rattle.mrd_format.specs.declared.kind.Kind.{Kind}
use Rattle.mrd_format.specs.declared.kind.Kind.TheVariants as kind
use Rattle.mrd_format.specs.declared.rules.Rules.{Rules}
use Rattle.mrd_format.specs.declared.rules.Layout.{Layout}
use Rattle.mrd_format.specs.IdLaws.{GoesBy}
use Rattle.mrd_judge.specs.declared.sort.Sort.{Sort}
use Rattle.mrd_judge.specs.declared.sort.Sort.TheVariants.{ConfigurationName, ConfigurationText, HeaderText, Close, Text, Acquisition, Image, Waveform}

abbrev pub sort_of : Kind → Sort
sort_of kind.ConfigurationName = ConfigurationName
sort_of kind.ConfigurationText = ConfigurationText
sort_of kind.HeaderText = HeaderText
sort_of kind.Close = Close
sort_of kind.Text = Text
sort_of kind.Acquisition = Acquisition
sort_of kind.Image = Image
sort_of (kind.Waveform l) = Waveform

abbrev pub kind_in : Rules → Sort → Kind
kind_in rules ConfigurationName = kind.ConfigurationName
kind_in rules ConfigurationText = kind.ConfigurationText
kind_in rules HeaderText = kind.HeaderText
kind_in rules Close = kind.Close
kind_in rules Text = kind.Text
kind_in rules Acquisition = kind.Acquisition
kind_in rules Image = kind.Image
kind_in rules Waveform = kind.Waveform rules.layout

-- a kind of the table that the rules say is the one that its sort stands for
pub kind_of_sort : (rules : Rules) (k : Kind) → GoesBy rules.layout k → kind_in rules (sort_of k) ≡ k
kind_of_sort rules kind.ConfigurationName g = refl
kind_of_sort rules kind.ConfigurationText g = refl
kind_of_sort rules kind.HeaderText g = refl
kind_of_sort rules kind.Close g = refl
kind_of_sort rules kind.Text g = refl
kind_of_sort rules kind.Acquisition g = refl
kind_of_sort rules kind.Image g = refl
kind_of_sort rules (kind.Waveform l) g = ap (λ (m : Layout). kind.Waveform m) (sym g)
