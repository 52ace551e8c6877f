use Rattle.std.proofs.Common.{◌≡◌, false, length}
use Rattle.path_walk.specs.Walks.{KeepsTrip, trip_of}
use Rattle.path_walk.proofs.walk.Walk.run.Given as goal

abbrev pub invariant-loop-step : goal.invariant-loop-step
invariant-loop-step l =
    record {
      base : l.self.at_base ≡ false;
      links : l.self.links ≡ l.initial.self.links;
      keeps : KeepsTrip (trip_of l.initial.self) (trip_of l.self) l.txn.reads;
    }

abbrev pub decreases-loop-step : goal.decreases-loop-step
decreases-loop-step l = length l.self.rest
