use Rattle.std.proofs.Common.{◌≡◌, ◌++◌, drop}
use Rattle.run_record.specs.Right.{ops_told}
use Rattle.run_record.proofs.summary.ops_told.Given as goal

abbrev pub invariant-loop-listed : goal.invariant-loop-listed
invariant-loop-listed l = l.pairs ++ ops_told l.clients (drop l.listed-index l.receipts) ≡ ops_told l.clients l.receipts
