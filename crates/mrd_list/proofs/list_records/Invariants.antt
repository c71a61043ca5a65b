-- Each step goes forward: the measure is the bytes that are left.
use Rattle.std.proofs.Common.{◌-◌, length}
use Rattle.mrd_list.proofs.list_records.Given as goal

abbrev pub decreases-loop-record : goal.decreases-loop-record
decreases-loop-record g l = length l.s - l.c.start
