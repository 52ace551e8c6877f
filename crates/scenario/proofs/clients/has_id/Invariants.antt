use Rattle.std.proofs.Common.{◌≡◌, drop}
use Rattle.scenario.specs.Scenario.{has_id}
use Rattle.scenario.proofs.clients.has_id.Given as goal

abbrev pub invariant-loop-script : goal.invariant-loop-script
invariant-loop-script l = has_id l.id l.scripts ≡ has_id l.id (drop l.script-index l.scripts)
