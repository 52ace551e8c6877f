use Rattle.std.proofs.Common.{◌≡◌, drop}
use Rattle.scenario.specs.Scenario.{are_distinct}
use Rattle.scenario.proofs.clients.are_distinct.Given as goal

abbrev pub invariant-loop-i : goal.invariant-loop-i
invariant-loop-i l = are_distinct l.scripts ≡ are_distinct (drop l.i l.scripts)
