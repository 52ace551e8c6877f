use Rattle.std.proofs.Common.{◌≡◌, map, drop}
use Rattle.std.specs.Prelude.{All}
use Rattle.client_core.specs.Plans.{NamesClient}
use Rattle.fs_base.specs.Gives.{each_from}
use Rattle.fs_base.proofs.Each.{with_front}
use Rattle.serde_json.specs.View.{view}
use Rattle.scenario.specs.Schedule.{item_of, items_of}
use Rattle.scenario.proofs.schedule.items_of.Given as goal

abbrev pub invariant-loop-value : goal.invariant-loop-value
invariant-loop-value l = record {
  valid : All (NamesClient l.count) l.items;
  so_far : with_front l.items (each_from (λ _ d. item_of l.count d) l.value-index (drop l.value-index (map view l.values))) ≡ items_of l.count (map view l.values);
}
