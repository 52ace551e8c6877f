use Rattle.op_link.proofs.LeaveLaws.{asks_node, left_done, no_node}
use Rattle.op_link.proofs.unlink.leave.Goals as goal

pub returns-in-Ask : goal.returns-in-Ask
returns-in-Ask c =
    asks_node c.args.stamp c.args.dir c.args.name.now c.args.txn.now c.requires.writes c.args.entry c.requires.entry c.requires.no_dir c.in-Ask.key (rw c.in-Ask.is at c.in_ok-key.ensures)

pub returns-in-Absent : goal.returns-in-Absent
returns-in-Absent c =
    let want = rw c.in-Absent.is at c.in_ok-key.ensures in
    no_node c.args.stamp c.args.dir c.args.name.now c.args.txn.now c.requires.writes c.args.entry c.requires.entry c.requires.no_dir want.0 want.1

pub returns-in_ok-put_unlinked-in-There : goal.returns-in_ok-put_unlinked-in-There
returns-in_ok-put_unlinked-in-There c =
    let want = rw c.in-There.is at c.in_ok-key.ensures in
    left_done c.args.stamp c.args.dir c.args.name.now c.args.txn.now c.requires.writes c.args.entry c.requires.entry c.requires.no_dir c.in-There.row (record { seen = want.0; there = want.1 })
    c.in_range.ensures.id c.in_range.ensures.dir c.in_range.ensures.name c.requires.stamp c.put_unlinked.new.txn c.new.result c.new.ensures c.in_ok-put_unlinked-in-There.ensures
