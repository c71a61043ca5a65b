-- What is saved of a stream as the C struct: the report; beside a refusal all else is 0, and no close was added.
-- Assumes nothing.
use Rattle.std.specs.Prelude.{ℕ, false}
use Rattle.mrd_logic.specs.Answer.{Answer, answered, stream, number}
use Rattle.mrd_salvage.specs.declared.report.Report.{Report}
use Rattle.c_salvage.specs.declared.salvaged.Salvaged.{Salvaged}

abbrev pub c_report : Report → Salvaged
c_report r =
    record {
      refusal = 0;
      messages_kept = r.messages_kept;
      bytes_not_kept = r.bytes_not_kept;
      length = r.length;
      close_added = r.close_added;
    }

-- an answer without a report
abbrev pub refused_salvage : ℕ → Salvaged
refused_salvage f = record { refusal = f; messages_kept = 0; bytes_not_kept = 0; length = 0; close_added = false }

abbrev pub c_salvaged : Answer Report → Salvaged
c_salvaged (answered r) = c_report r
c_salvaged (stream f r b) = refused_salvage f
c_salvaged (number n) = refused_salvage n
