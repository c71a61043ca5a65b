-- What is given for one message, as the record that the definitions speak of.
-- Assumes nothing.
use Rattle.mrd_format.specs.Parts.{Contents, contents}
use Rattle.mrd_write_checks.specs.declared.message.Message.{Message}

-- the bytes behind its slices
abbrev pub given_contents : Message → Contents
given_contents m =
    contents m.header.now m.name.now m.text.now m.trajectory.now m.samples.now m.attributes.now m.pixels.now m.waveform.now
