-- `mrd_put::put::put_content` meets its contract: each kind's parts are those of the definition.
-- Assumes nothing.
use mathlib.Core.Path.{◌≡◌, refl}
use mathlib.Core.List.{[], ◌∷◌, ◌++◌}
use lib.ListN.{length}
use denote.Enum.Declared.{tag_of}
use types.Run.{OneOf}
use Rattle.mrd_numbers.specs.Little.{to_bytes}
use Rattle.mrd_format.specs.declared.kind.Kind.{Kind}
use Rattle.mrd_format.specs.Parts.{Contents}
use Rattle.mrd_format.specs.Content.{fixed_of, body_of, bytes_after_id}
use Rattle.mrd_format.specs.contracts.kind.Kind.{the_type}
use Rattle.mrd_format.proofs.Arms.{arm_same}
use Rattle.mrd_write_checks.specs.Given.{given_contents}
use Rattle.mrd_put.specs.PutLaws.{content-name, content_image, acquisition-made, waveform-made, name-room, text-room, acquisition-room, image-room, waveform-room}
use Rattle.mrd_put.proofs.put.put_content.Goals as goal

-- a text of any of the three kinds is put after its length
text-made : (c : Contents) (k : Kind) → OneOf (1 ∷ 2 ∷ 4 ∷ []) (tag_of the_type k) →
    bytes_after_id k c ≡ to_bytes 4 (length c.parts.text) ++ c.parts.text
unfolding bytes_after_id fixed_of body_of
text-made c k o = arm_same (λ (j : Kind). bytes_after_id j c) _ (1 ∷ 2 ∷ 4 ∷ []) k o refl

pub put_name-requires : goal.put_name-requires
put_name-requires c = name-room _ _ _ c.requires.0 c.requires.1 c.in-ConfigurationName.is

pub put_text-requires : goal.put_text-requires
put_text-requires c =
    text-room _ _ _ c.requires.0 c.requires.1 (text-made _ c.args.kind c.in-ConfigurationText.in-ConfigurationText-own.keys2)

pub put_acquisition-requires : goal.put_acquisition-requires
put_acquisition-requires c = acquisition-room _ _ _ c.requires.0 c.requires.1 c.in-Acquisition.is

pub put_image-requires : goal.put_image-requires
put_image-requires c = image-room _ _ _ c.requires.0 c.requires.1 c.in-Image.is

pub put_waveform-requires : goal.put_waveform-requires
put_waveform-requires c = waveform-room _ _ _ c.requires.0 c.requires.1 c.in-Waveform.is

pub returns-in-ConfigurationName : goal.returns-in-ConfigurationName
returns-in-ConfigurationName c = rw (c.in-ConfigurationName.is, content-name) c.put_name.ensures

pub returns-in-ConfigurationText : goal.returns-in-ConfigurationText
returns-in-ConfigurationText c =
    rw (text-made (given_contents c.args.message.now) c.args.kind c.in-ConfigurationText.in-ConfigurationText-own.keys2) c.put_text.ensures

pub returns-in-Close : goal.returns-in-Close
unfolding bytes_after_id fixed_of body_of
returns-in-Close c = rw c.in-Close.is

pub returns-in-Acquisition : goal.returns-in-Acquisition
returns-in-Acquisition c =
    rw (c.in-Acquisition.is, acquisition-made _ (given_contents c.args.message.now) _ c.requires.0 c.requires.1 c.in-Acquisition.is)
    c.put_acquisition.ensures

pub returns-in-Image : goal.returns-in-Image
returns-in-Image c = rw (c.in-Image.is, content_image) c.put_image.ensures

pub returns-in-Waveform : goal.returns-in-Waveform
returns-in-Waveform c =
    rw (waveform-made _ (given_contents c.args.message.now) _ c.requires.0 c.requires.1 c.in-Waveform.is) c.put_waveform.ensures
