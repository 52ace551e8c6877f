use Rattle.std.proofs.Common.{◌≡◌, map, drop, length}
use Rattle.std.specs.Prelude.{All}
use Rattle.fs_base.specs.Gives.{each_from}
use Rattle.fs_base.proofs.Each.{with_front}
use Rattle.serde_json.specs.View.{view}
use Rattle.client_core.specs.Plans.{HasId, IsScript}
use Rattle.scenario.specs.Scenario.{script_of, scripts_of}
use Rattle.scenario.proofs.read.scripts_of.Given as goal

abbrev pub invariant-loop-value : goal.invariant-loop-value
invariant-loop-value l = record {
  count : length l.scripts ≡ l.value-index;
  valid : All (IsScript l.servers) l.scripts;
  named : All HasId l.scripts;
  so_far : with_front l.scripts (each_from (script_of l.servers) l.value-index (drop l.value-index (map view l.values))) ≡ scripts_of l.servers (map view l.values);
}
