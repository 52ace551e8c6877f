use Rattle.std.proofs.Common.{rules}
use Rattle.tree_model.proofs.MovingLaws.{first_inserted}
use Rattle.tree_model.proofs.tree.Tree.shift.Goals as goal

pub returns-clause-ok : goal.returns-clause-ok
returns-clause-ok c =
    let in_order = first_inserted c.self.inside.entries c.args.shift.from c.args.shift.to c.args.shift.id c.requires in
    search rules
