use Rattle.std.proofs.Common.{◌≡◌, take}
use Rattle.run_record.specs.Right.{conflicts_in}
use Rattle.run_record.proofs.summary.conflicts_in.Given as goal

abbrev pub invariant-loop-listed : goal.invariant-loop-listed
invariant-loop-listed l = l.conflicts ≡ conflicts_in (take l.listed-index l.receipts)
