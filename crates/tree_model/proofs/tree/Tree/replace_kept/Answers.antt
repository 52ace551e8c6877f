use Rattle.std.proofs.Common.{rules}
use Rattle.tree_model.proofs.MovingLaws.{replaced_kept}
use Rattle.tree_model.proofs.tree.Tree.replace_kept.Goals as goal

pub returns-else-is_err-clause-ok : goal.returns-else-is_err-clause-ok
returns-else-is_err-clause-ok c =
    let in_order = replaced_kept c.args.self.now.tree c.args.request.now c.args.shift c.args.old c.args.fate c.requires.apart in
    search rules
