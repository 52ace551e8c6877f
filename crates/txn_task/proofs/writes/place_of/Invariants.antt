use Rattle.std.proofs.Common.{take}
use Rattle.txn_task.specs.Transactions.{WritesBefore}
use Rattle.txn_task.proofs.writes.place_of.Given as goal

abbrev pub invariant-loop-place : goal.invariant-loop-place
invariant-loop-place l = WritesBefore l.key (take l.place l.writes)
