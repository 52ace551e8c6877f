use Rattle.std.proofs.Common.{◌≡◌, drop}
use Rattle.txn_task.specs.Writes.{version_of}
use Rattle.txn_task.proofs.txn.version_in.Given as goal

abbrev pub invariant-loop-place : goal.invariant-loop-place
invariant-loop-place l = version_of (drop l.place l.reads) (drop l.place l.versions) l.key ≡ version_of l.reads l.versions l.key
