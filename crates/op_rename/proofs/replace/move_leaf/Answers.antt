use Rattle.op_rename.proofs.MoveLaws.{at_dir}
use Rattle.op_rename.proofs.replace.move_leaf.Goals as goal

pub returns-in_default : goal.returns-in_default
returns-in_default c = rw c.in_default.is (c.in_ok-step.ensures c.args.stamp)

pub returns-in-Dir : goal.returns-in-Dir
returns-in-Dir c =
    rw c.in-Some.is
    (at_dir c.args.spots.now c.args.stamp c.args.entry c.requires.no_dir c.in-Some.old (rw c.in-Some.is at c.requires.other) c.args.txn.now (rw c.in-Some.is at c.requires.known) c.requires.writes c.in-Dir.is)
