-- How far a walk comes, as the code finds it, and the report by that.
-- Assumes nothing.
use Rattle.std.specs.Prelude.{ℕ, ◌+◌, ◌-◌, true, false, List, ltb, length}
use Rattle.mrd_logic.specs.Choice.{pick}
use Rattle.mrd_format.specs.declared.rules.Rules.{Rules}
use Rattle.mrd_cursor.specs.declared.cursor.Cursor.{Cursor}
use Rattle.mrd_cursor.specs.Order.{is_closed}
use Rattle.mrd_cursor.specs.Cursors.{beginning, after}
use Rattle.mrd_stream.specs.Walk.{Trace, message, done, trace}
use Rattle.mrd_salvage.specs.declared.reach.Reach.{Reach}
use Rattle.mrd_salvage.specs.declared.report.Report.{Report}
use Rattle.mrd_salvage.specs.Salvage.{most_kept}

-- a walk that stopped at c; the message before c starts at `last`
abbrev pub reach_at : Cursor → ℕ → Reach
reach_at c last = record { number = c.number; end = c.start; last = last; closed = is_closed c.phase }

-- where a walk that is at c stops
abbrev pub reach_from : Cursor → ℕ → Trace → Reach
reach_from c last (message d k m r) = reach_from (after d k (length m)) d.start r
reach_from c last (done v) = reach_at c last

-- where the walk of a stream stops
unfoldable pub reached : Rules → List ℕ → Reach
reached rules s = reach_from beginning 0 (trace rules s)

-- of n bytes, those up to `end` are kept, so many messages: as they are, or with a close after them
abbrev pub as_they_are : (messages end n : ℕ) → Report
as_they_are k e n = record { messages_kept = k; bytes_not_kept = n - e; close_added = false; length = e }

abbrev pub with_close : (messages end n : ℕ) → Report
with_close k e n = record { messages_kept = k; bytes_not_kept = n - e; close_added = true; length = e + 2 }

-- the report on a stream of n bytes of which, with a close after them, at most so many messages may be kept
abbrev pub report_up_to : (most : ℕ) → Reach → ℕ → Report
report_up_to most r n =
    pick r.closed (as_they_are r.number r.end n)
    (pick (ltb most r.number) (with_close most r.last n) (with_close r.number r.end n))

abbrev pub report_by : Reach → ℕ → Report
report_by r n = report_up_to most_kept r n
