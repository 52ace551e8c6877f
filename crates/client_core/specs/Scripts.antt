-- The scripts of a plan's run.
use Rattle.std.specs.Prelude.{List, [], ◌++◌}
use Rattle.client_core.specs.declared.plan.Plan.{Plan}
use Rattle.client_core.specs.declared.plan.Script.{Script}

-- the sweeper's script, with the nil id, and with server 0 as its home; no plan has one yet
abbrev pub sweeper_in : Plan → List Script
sweeper_in plan = []

-- those of the clients, and the sweeper's behind them
abbrev pub scripts_in : Plan → List Script
scripts_in plan = plan.clients ++ sweeper_in plan
