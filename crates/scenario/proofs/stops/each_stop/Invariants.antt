use Rattle.std.proofs.Common.{◌≡◌, map, drop, length}
use Rattle.std.specs.Prelude.{All}
use Rattle.client_core.specs.Plans.{IsStop}
use Rattle.fs_base.specs.Gives.{each_from}
use Rattle.fs_base.proofs.Each.{with_front}
use Rattle.serde_json.specs.View.{view}
use Rattle.scenario.specs.Stops.{each_stop, stop_of}
use Rattle.scenario.proofs.stops.each_stop.Given as goal

abbrev pub invariant-loop-value : goal.invariant-loop-value
invariant-loop-value l = record {
  count : length l.stops ≡ l.value-index;
  valid : All (IsStop l.servers) l.stops;
  so_far : with_front l.stops (each_from (λ _ d. stop_of l.servers d) l.value-index (drop l.value-index (map view l.values))) ≡ each_stop l.servers (map view l.values);
}
