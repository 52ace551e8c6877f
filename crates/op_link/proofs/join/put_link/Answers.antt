use Rattle.op_link.proofs.JoinLaws.{full_done, one_done}
use Rattle.op_link.proofs.join.put_link.Goals as goal

pub returns-then-row-ge-LINK_COUNT : goal.returns-then-row-ge-LINK_COUNT
returns-then-row-ge-LINK_COUNT c =
    full_done c.args.id c.args.stamp c.args.dir c.args.name.now c.args.txn.now c.requires.writes c.args.row c.requires.source c.requires.may c.if-row-ge-LINK_COUNT.true

pub returns : goal.returns
returns c =
    one_done c.args.id c.args.stamp c.args.dir c.args.name.now c.args.txn.now c.requires.writes c.args.row c.requires.source c.requires.may
    c.in_range.ensures.id c.requires.stamp c.if-row-ge-LINK_COUNT.false c.in_range.ensures.dir c.in_range.ensures.name c.put_joined.new.txn c.new.result (rw c.recounted-new.ensures at c.in_ok-put_joined.ensures) c.new.ensures
