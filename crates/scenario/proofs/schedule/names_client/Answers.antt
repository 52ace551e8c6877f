use Rattle.std.proofs.Common.{◌≡◌, ◌+◌, ◌-◌, inr, arith}
use Rattle.std.proofs.lemmas.Bool.{ltb-true}
use Rattle.scenario.proofs.schedule.names_client.Goals as goal

pub returns-then-item-ge100-clause-names : goal.returns-then-item-ge100-clause-names
returns-then-item-ge100-clause-names c = λ holds.
    let split : c.args.item ≡ 100 + (c.args.item - 100) = omega arith in
    inr (c.args.item - 100, split, ltb-true (c.args.item - 100) c.args.count holds)
