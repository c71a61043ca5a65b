-- `mrd_put::put::put_waveform` meets its contract: the header and the data are put at the front, and the header's filler is made zero.
-- Assumes nothing.
use Rattle.mrd_put.specs.PutLaws.{waveform-put}
use Rattle.mrd_put.proofs.put.put_waveform.Goals as goal

pub returns : goal.returns
returns c =
    waveform-put c.args.layout c.args.header.now c.args.waveform.now c.args.out.now
    c.put_joined.new.out c.clear_filler.new.out c.requires.0 c.requires.1
    c.put_joined.ensures c.clear_filler.ensures
