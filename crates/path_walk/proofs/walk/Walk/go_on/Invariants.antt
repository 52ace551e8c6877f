use Rattle.std.proofs.Common.{◌≡◌, false}
use Rattle.path_walk.specs.Walks.{KeepsTrip, trip_of}
use Rattle.path_walk.proofs.walk.Walk.go_on.Given as goal

abbrev pub invariant-loop-step : goal.invariant-loop-step
invariant-loop-step l =
    record {
      base : l.self.at_base ≡ false;
      keeps : KeepsTrip (trip_of l.fn.self) (trip_of l.self) l.txn.reads;
    }

abbrev pub decreases-loop-step : goal.decreases-loop-step
decreases-loop-step l = l.self.links
