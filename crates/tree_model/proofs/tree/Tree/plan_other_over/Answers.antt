use Rattle.std.proofs.Common.{rules}
use Rattle.tree_model.proofs.MovingLaws.{other_replaced}
use Rattle.tree_model.proofs.tree.Tree.plan_other_over.Goals as goal

pub returns : goal.returns
returns c = (
  c.requires.apart,
  search rules,
  search rules,
  other_replaced c.args.self.now.tree c.args.request.now.stamp c.args.shift c.args.old c.args.node.now c.requires.there c.count_to-last.result c.fate_of.result c.requires.taken (search rules) c.count_to-last.ensures c.fate_of.ensures,
)
