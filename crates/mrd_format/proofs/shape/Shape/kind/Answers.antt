-- `Shape::kind` meets its contract: a waveform's kind has the layout of its shape.
-- Assumes nothing.
use Rattle.mrd_format.proofs.shape.Shape.kind.Goals as goal

pub returns-in-Waveform : goal.returns-in-Waveform
returns-in-Waveform c = rw c.in-Waveform.is
