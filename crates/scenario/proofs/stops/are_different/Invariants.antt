use Rattle.std.proofs.Common.{◌≡◌, drop}
use Rattle.scenario.specs.Stops.{are_different}
use Rattle.scenario.proofs.stops.are_different.Given as goal

abbrev pub invariant-loop-i : goal.invariant-loop-i
invariant-loop-i l = are_different l.stops ≡ are_different (drop l.i l.stops)
