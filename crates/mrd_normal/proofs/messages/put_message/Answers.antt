-- `mrd_normal::messages::put_message` meets its contract: the copy is the message, and each kind's cleaning makes it its normal form.
-- Assumes nothing.
use mathlib.Core.Path.{◌≡◌, refl, sym, ◌∙◌}
use mathlib.Core.List.{[], ◌∷◌}
use lib.ListN.{length}
use Rattle.mrd_format.specs.declared.kind.Kind.{Kind}
use Rattle.mrd_format.specs.declared.kind.Kind.TheVariants.{ConfigurationText, HeaderText, Close, Text, Acquisition}
use Rattle.mrd_format.specs.Message.{fixed_part, size_of}
use Rattle.mrd_format.specs.Content.{normal_of}
use Rattle.mrd_format.proofs.NormalLaws.{kept}
use Rattle.mrd_format.proofs.Arms.{arm}
use Rattle.mrd_normal.specs.MessageOf.{its-size, its-least, copied-whole, name-ready, image-ready, name_done, image-done, waveform-ready, waveform-done}
use borrow.Enum.Refused.{opened}
use Rattle.mrd_normal.proofs.messages.put_message.Goals as goal

pub of-requires : goal.of-requires
of-requires c =
    its-least c.args.kind c.args.m.now c.requires.0

pub fill_name-requires : goal.fill_name-requires
fill_name-requires c =
    (name-ready c.args.kind c.args.m.now c.requires.0 c.of.ensures.bytes
    (c.copy.ensures.1 ∙ copied-whole c.args.m.now c.args.out.now c.requires.1) c.in-ConfigurationName.is).1

pub put_length-requires : goal.put_length-requires
put_length-requires c =
    let ready = image-ready c.args.kind c.args.m.now c.requires.0 c.of.ensures.bytes
    (c.copy.ensures.1 ∙ copied-whole c.args.m.now c.args.out.now c.requires.1) c.in-Image.is in
    (ready.1, ready.2)

pub clear_waveform-requires : goal.clear_waveform-requires
clear_waveform-requires c =
    waveform-ready c.args.kind c.args.m.now c.requires.0
    (c.copy.ensures.1 ∙ copied-whole c.args.m.now c.args.out.now c.requires.1) c.in-Waveform.is

pub returns-in-ConfigurationName : goal.returns-in-ConfigurationName
returns-in-ConfigurationName c =
    name_done c.args.kind c.args.m.now c.requires.0 c.of.ensures.bytes
    (c.copy.ensures.1 ∙ copied-whole c.args.m.now c.args.out.now c.requires.1) c.in-ConfigurationName.is
    c.fill_name.ensures

pub returns-in-Image : goal.returns-in-Image
returns-in-Image c =
    image-done c.args.kind c.args.m.now c.requires.0 c.of.ensures.bytes
    (c.copy.ensures.1 ∙ copied-whole c.args.m.now c.args.out.now c.requires.1) c.in-Image.is
    c.put_length.ensures

pub returns-in-Waveform : goal.returns-in-Waveform
returns-in-Waveform c =
    waveform-done c.args.kind c.args.m.now c.requires.0
    (c.copy.ensures.1 ∙ copied-whole c.args.m.now c.args.out.now c.requires.1) c.in-Waveform.is
    c.clear_waveform.ensures

-- a kind that is none of them is kept as it is
pub returns-in_default : goal.returns-in_default
returns-in_default c =
    let m = c.args.m.now in
    let same : normal_of c.args.kind m ≡ m =
    arm (λ (k : Kind). size_of k (fixed_part k m) ≡ length m → normal_of k m ≡ m) (1 ∷ 2 ∷ 3 ∷ 4 ∷ 5 ∷ []) c.args.kind (opened c.in_default.in_default-own.keys4) (
      kept ConfigurationText m refl,
      (kept HeaderText m refl, (kept Close m refl, (kept Text m refl, (kept Acquisition m refl, tt)))),
    ) (its-size c.args.kind m c.requires.0) in
    c.copy.ensures.1 ∙ copied-whole m c.args.out.now c.requires.1 ∙ sym same
