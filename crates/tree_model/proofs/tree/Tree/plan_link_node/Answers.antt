use Rattle.std.proofs.Common.{◌≡◌, rules}
use Rattle.std.specs.Prelude.{Some}
use Rattle.std.specs.FinMap.{get}
use Rattle.tree_model.proofs.Lasts.{node_full, node_joined}
use Rattle.tree_model.proofs.tree.Tree.plan_link_node.Goals as goal

pub returns-then-count_to : goal.returns-then-count_to
returns-then-count_to c =
    let there : get c.args.self.now.tree.nodes c.args.id ≡ Some c.in-Some._node.now = search rules in
    node_full c.args.self.now.tree c.args.request.now.stamp c.args.id c.args.key.0 c.args.key.1 c.in-Some._node.now there c.count_to.result c.count_to.ensures c.if-count_to.true

pub returns : goal.returns
returns c =
    let there : get c.args.self.now.tree.nodes c.args.id ≡ Some c.in-Some._node.now = search rules in
    node_joined c.args.self.now.tree c.args.request.now.stamp c.args.id c.args.key.0 c.args.key.1 c.in-Some._node.now there c.count_to.result c.count_to.ensures c.if-count_to.false
