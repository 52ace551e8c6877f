use Rattle.std.proofs.Common.{ap, ◌∙◌}
use Rattle.std.proofs.lemmas.List.{drop_all}
use Rattle.scenario.specs.Scenario.{are_distinct}
use Rattle.scenario.proofs.Distinct.{distinct_from}
use Rattle.scenario.proofs.clients.are_distinct.Goals as goal

pub returns-clause-distinct : goal.returns-clause-distinct
returns-clause-distinct c = λ holds. distinct_from c.args.scripts.now (c.loop-i.invariant ∙ ap are_distinct (drop_all c.loop-i.i c.args.scripts.now c.loop-i-test.false))
