use Rattle.std.proofs.Common.{◌≡◌, take}
use Rattle.txn_task.proofs.txn.copy_ranges.Given as goal

abbrev pub invariant-loop-range : goal.invariant-loop-range
invariant-loop-range l = l.copies ≡ take l.range-index l.ranges
