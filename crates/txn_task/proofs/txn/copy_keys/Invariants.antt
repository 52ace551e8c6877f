use Rattle.std.proofs.Common.{◌≡◌, take}
use Rattle.txn_task.proofs.txn.copy_keys.Given as goal

abbrev pub invariant-loop-read : goal.invariant-loop-read
invariant-loop-read l = l.copies ≡ take l.read-index l.keys
