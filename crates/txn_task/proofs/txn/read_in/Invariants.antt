use Rattle.std.proofs.Common.{◌≡◌, drop}
use Rattle.txn_task.specs.Writes.{read_of}
use Rattle.txn_task.proofs.txn.read_in.Given as goal

abbrev pub invariant-loop-read : goal.invariant-loop-read
invariant-loop-read l = read_of (drop l.read-index l.reads) l.key ≡ read_of l.reads l.key
