-- `mrd_judge::sort::Sort::kind` meets its contract: a waveform's kind has the layout that the rules say.
-- Assumes nothing.
use Rattle.mrd_judge.proofs.sort.Sort.kind.Goals as goal

pub returns-in-Waveform : goal.returns-in-Waveform
returns-in-Waveform c = rw c.in-Waveform.is
