-- 'Message kinds': the eight rows of the paper's table, each kind with its number and the size of its fixed part; a waveform's with its layout.
-- Assumes nothing.
use Rattle.std.specs.Prelude.{ℕ, List, [], ◌∷◌, eqb, Option, Some, None}
use Rattle.mrd_logic.specs.Choice.{pick}
use Rattle.mrd_format.specs.Parts.{header}
use Rattle.mrd_format.specs.Segments.{total, reach_from, reach_size, Form}
use Rattle.mrd_format.specs.Texts.{name_form, text_form, close_form}
use Rattle.mrd_format.specs.Acquisition as acquisition
use Rattle.mrd_format.specs.Image as image
use Rattle.mrd_format.specs.Waveform as waveform
use Rattle.mrd_format.specs.declared.kind.Kind.{Kind}
use Rattle.mrd_format.specs.declared.kind.Kind.TheVariants.{ConfigurationName, ConfigurationText, HeaderText, Close, Text, Acquisition, Image, Waveform}
use Rattle.mrd_format.specs.declared.rules.Rules.{Rules}

-- 'id'
abbrev pub id_of : Kind → ℕ
id_of ConfigurationName = 1
id_of ConfigurationText = 2
id_of HeaderText = 3
id_of Close = 4
id_of Text = 5
id_of Acquisition = 1008
id_of Image = 1022
id_of (Waveform l) = 1026

-- what follows the id
abbrev pub form_of : Kind → Form
form_of ConfigurationName = name_form
form_of ConfigurationText = text_form
form_of HeaderText = text_form
form_of Close = close_form
form_of Text = text_form
form_of Acquisition = acquisition.form
form_of Image = image.form
form_of (Waveform l) = waveform.form l

-- 'fixed part', which excludes the 2-byte id
abbrev pub fixed_size : Kind → ℕ
fixed_size k = total (form_of k).fixed_segments

-- 'the fixed header's bytes (340, 198 or 32; none for other kinds)', and 40 for an aligned waveform
abbrev pub header_size : Kind → ℕ
header_size k = reach_size (reach_from header [] 2 (form_of k).fixed_segments)

-- the rows, in the paper's order: 'The caller says which layout the whole stream uses'
abbrev pub kinds : Rules → List Kind
kinds rules = ConfigurationName ∷ ConfigurationText ∷ HeaderText ∷ Close ∷ Text ∷ Acquisition ∷ Image ∷ Waveform rules.layout ∷ []

-- the row of a table with this id
abbrev pub lookup : List Kind → ℕ → Option Kind
lookup [] id = None
lookup (k ∷ ks) id = pick (eqb id (id_of k)) (Some k) (lookup ks id)

-- the kind with this id: 'id not in the table above' is None
unfoldable pub identified : Rules → ℕ → Option Kind
identified rules id = lookup (kinds rules) id
