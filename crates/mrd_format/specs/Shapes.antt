-- What each case of the enum `Shape` says: the kind, and the kind's own numbers in the paper's order ('Place and kind').
-- Assumes nothing.
use Rattle.std.specs.Prelude.{ℕ, List, [], ◌∷◌}
use Rattle.mrd_format.specs.Acquisition.{mask_number, mask_ones}
use Rattle.mrd_format.specs.declared.kind.Kind.{Kind}
use Rattle.mrd_format.specs.declared.shape.AcquisitionShape.{AcquisitionShape}
use Rattle.mrd_format.specs.declared.shape.ImageShape.{ImageShape}
use Rattle.mrd_format.specs.declared.shape.WaveformShape.{WaveformShape}
use Rattle.mrd_format.specs.declared.shape.Shape.{Shape}
use Rattle.mrd_format.specs.declared.shape.Shape.TheVariants.{ConfigurationName, ConfigurationText, HeaderText, Close, Text, Acquisition, Image, Waveform}

abbrev pub kind_of : Shape → Kind
kind_of (ConfigurationName s) = Kind.ConfigurationName
kind_of (ConfigurationText s) = Kind.ConfigurationText
kind_of (HeaderText s) = Kind.HeaderText
kind_of Close = Kind.Close
kind_of (Text s) = Kind.Text
kind_of (Acquisition s) = Kind.Acquisition
kind_of (Image s) = Kind.Image
kind_of (Waveform s) = Kind.Waveform s.layout

abbrev pub acquisition_numbers : AcquisitionShape → List ℕ
acquisition_numbers s =
    s.number_of_samples ∷ s.active_channels ∷ s.trajectory_dimensions ∷ mask_number s.mask ∷ mask_ones s.mask ∷ []

abbrev pub image_numbers : ImageShape → List ℕ
image_numbers s =
    s.matrix_size_x ∷ s.matrix_size_y ∷ s.matrix_size_z ∷ s.channels ∷ s.data_type ∷ s.attribute_length ∷ []

abbrev pub waveform_numbers : WaveformShape → List ℕ
waveform_numbers s = s.number_of_samples ∷ s.channels ∷ []

abbrev pub shape_numbers : Shape → List ℕ
shape_numbers (ConfigurationName s) = s.length ∷ []
shape_numbers (ConfigurationText s) = s.length ∷ []
shape_numbers (HeaderText s) = s.length ∷ []
shape_numbers Close = []
shape_numbers (Text s) = s.length ∷ []
shape_numbers (Acquisition s) = acquisition_numbers s
shape_numbers (Image s) = image_numbers s
shape_numbers (Waveform s) = waveform_numbers s
