use Rattle.std.proofs.Common.{ap}
use Rattle.row_tree.specs.TypedRows.{kind_of}
use Rattle.tree_model.proofs.MapLaws.{not_some}
use Rattle.row_tree.proofs.Making.{no_directory}
use Rattle.path_walk.proofs.directory.in_dir.Goals as goal

pub returns-in-Ask : goal.returns-in-Ask
returns-in-Ask c = rw c.in-Ask.is at c.in_ok-key.ensures

pub returns-in-Absent : goal.returns-in-Absent
returns-in-Absent c =
    let want = rw c.in-Absent.is at c.in_ok-key.ensures in
    (want.0, (λ C S good agrees has. not_some has.0 (want.1 S agrees) has.1))

pub returns-in-Dir : goal.returns-in-Dir
returns-in-Dir c =
    let want = rw c.in-There.is at c.in_ok-key.ensures in
    record { row = c.in-There.row; is_dir = ap kind_of c.in-Dir.is; seen = want.0; there = want.1 }

pub returns : goal.returns
returns c =
    let want = rw c.in-There.is at c.in_ok-key.ensures in
    (want.0, (λ C S good agrees has. no_directory S c.args.dir c.in-There.row (want.1 S agrees) (λ parent chunk stripe is. c.in_default.not-Dir _ _ _ is) has))
