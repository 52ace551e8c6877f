use Rattle.std.proofs.Common.{◌≡◌, map, drop, length}
use Rattle.std.specs.Prelude.{All}
use Rattle.fs_base.specs.Gives.{each_from}
use Rattle.fs_base.proofs.Each.{with_front}
use Rattle.serde_json.specs.View.{view}
use Rattle.scenario.specs.Ops.{op_of}
use Rattle.client_core.specs.Plans.{IsOp}
use Rattle.scenario.specs.Scenario.{ops_of}
use Rattle.scenario.proofs.read.ops_of.Given as goal

abbrev pub invariant-loop-value : goal.invariant-loop-value
invariant-loop-value l = record {
  count : length l.ops ≡ l.value-index;
  valid : All IsOp l.ops;
  so_far : with_front l.ops (each_from (λ _ d. op_of d) l.value-index (drop l.value-index (map view l.values))) ≡ ops_of (map view l.values);
}
