use Rattle.std.proofs.Common.{ap, ◌∙◌}
use Rattle.std.proofs.lemmas.List.{drop_all}
use Rattle.scenario.specs.Stops.{are_different}
use Rattle.scenario.proofs.Alike.{stops_distinct_from}
use Rattle.scenario.proofs.stops.are_different.Goals as goal

pub returns-clause-distinct : goal.returns-clause-distinct
returns-clause-distinct c = λ holds. stops_distinct_from c.args.stops.now (c.loop-i.invariant ∙ ap are_different (drop_all c.loop-i.i c.args.stops.now c.loop-i-test.false))
