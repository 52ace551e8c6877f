use Rattle.op_rename.proofs.MoveLaws.{asks_old, no_old}
use Rattle.op_rename.proofs.replace.over_leaf.Goals as goal

pub returns-in-Ask : goal.returns-in-Ask
returns-in-Ask c = asks_old c.args.spots.now c.args.stamp c.args.entry c.requires.no_dir c.args.old c.requires.other c.args.txn.now c.requires.known c.requires.old_no_dir c.requires.writes c.in-Ask.key (rw c.in-Ask.is at c.in_ok-key.ensures)

pub returns-in-Absent : goal.returns-in-Absent
returns-in-Absent c =
    let want = rw c.in-Absent.is at c.in_ok-key.ensures in
    no_old c.args.spots.now c.args.stamp c.args.entry c.requires.no_dir c.args.old c.requires.other c.args.txn.now c.requires.known c.requires.old_no_dir c.requires.writes want.0 want.1

pub put_over-requires-clause-row : goal.put_over-requires-clause-row
put_over-requires-clause-row c = let want = rw c.in-There.is at c.in_ok-key.ensures in record { seen = want.0; there = want.1 }
