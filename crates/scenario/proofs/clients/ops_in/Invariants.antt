use Rattle.std.proofs.Common.{◌≡◌, ◌+◌, ◌*◌, ◌≤◌, drop}
use Rattle.client_core.specs.Plans.{ops_in}
use Rattle.scenario.proofs.clients.ops_in.Given as goal

abbrev pub invariant-loop-script : goal.invariant-loop-script
invariant-loop-script l = record {
  few : l.count ≤ 4000 * l.script-index;
  so_far : l.count + ops_in (drop l.script-index l.scripts) ≡ ops_in l.scripts;
}
