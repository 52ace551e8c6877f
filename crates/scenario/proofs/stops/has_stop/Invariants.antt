use Rattle.std.proofs.Common.{◌≡◌, drop}
use Rattle.scenario.specs.Stops.{has_stop}
use Rattle.scenario.proofs.stops.has_stop.Given as goal

abbrev pub invariant-loop-other : goal.invariant-loop-other
invariant-loop-other l = has_stop l.stop l.stops ≡ has_stop l.stop (drop l.other-index l.stops)
