use Rattle.std.proofs.Common.{◌≡◌, rules}
use Rattle.std.specs.Prelude.{Some}
use Rattle.std.specs.FinMap.{get}
use Rattle.tree_model.proofs.Lasts.{entry_detached}
use Rattle.tree_model.proofs.tree.Tree.plan_unlink_entry.Goals as goal

pub returns : goal.returns
returns c =
    let at : get c.args.self.now.tree.entries c.args.key ≡ Some c.in-Some.id = search rules in
    let there : get c.args.self.now.tree.nodes c.in-Some.id ≡ Some c.in-Some-node.node.now = search rules in
    entry_detached c.args.self.now.tree c.args.request.now.stamp c.args.key.0 c.args.key.1 c.in-Some.id c.in-Some-node.node.now there c.count_to-last.result c.fate_of.result at (search rules) c.count_to-last.ensures c.fate_of.ensures
