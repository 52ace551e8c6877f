use Rattle.std.proofs.Common.{◌≡◌, ◌++◌, drop}
use Rattle.run_record.specs.Right.{stops_told}
use Rattle.run_record.proofs.summary.stops_told.Given as goal

abbrev pub invariant-loop-listed : goal.invariant-loop-listed
invariant-loop-listed l = l.pairs ++ stops_told (drop l.listed-index l.receipts) ≡ stops_told l.receipts
