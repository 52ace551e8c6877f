use Rattle.std.proofs.Common.{◌≡◌, ◌++◌, take}
use Rattle.run_record.proofs.summary.push_stops.Given as goal

abbrev pub invariant-loop-stop : goal.invariant-loop-stop
invariant-loop-stop l = l.pairs ≡ l.fn.pairs ++ take l.stop-index l.stop-items
