-- A step that yields a record goes forward.
use Rattle.std.proofs.Common.{sym}
use Rattle.mrd_stream.specs.StepLaws.{on_less, step-yields}
use Rattle.mrd_list.proofs.list_records.Goals as goal

pub loop-record-smaller : goal.loop-record-smaller
loop-record-smaller g c = on_less c.args.s.now (step-yields _ c.loop-record.c c.args.s.now (sym c.in-Message.ensures))
