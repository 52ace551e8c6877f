use Rattle.std.proofs.Common.{◌≡◌, take}
use Rattle.txn_task.proofs.copies.copy_conflicts.Given as goal

abbrev pub invariant-loop-version : goal.invariant-loop-version
invariant-loop-version l = l.copies ≡ take l.version-index l.conflicts
