use Rattle.std.proofs.Common.{refl}
use Rattle.op_attr.specs.declared.task.AttrCall.TheVariants as attr
use Rattle.op_attr.proofs.ChangeLaws.{setattr_done}
use Rattle.op_attr.proofs.ReadLaws.{asks_inode, setattr_nowhere}
use Rattle.op_attr.proofs.setattr.setattr.Goals as goal

pub returns-in-Ask : goal.returns-in-Ask
returns-in-Ask c = λ kind. asks_inode c.args.txn.now c.requires.writes c.args.id (attr.Setattr c.args.stamp c.args.changes) kind c.in-Ask.key refl (rw c.in-Ask.is at c.in_ok-key.ensures)

pub returns-in-Absent : goal.returns-in-Absent
returns-in-Absent c = let want = rw c.in-Absent.is at c.in_ok-key.ensures in λ kind. setattr_nowhere c.args.txn.now c.requires.writes c.args.id kind c.args.stamp c.args.changes want.0 want.1

pub returns : goal.returns
returns c =
    let want = rw c.in-There.is at c.in_ok-key.ensures in
    λ kind.
    setattr_done c.args.txn.now c.put_changed.new.txn c.args.id kind c.args.stamp c.args.changes c.in-There.row c.new.result c.requires.ready c.in_range.ensures want.0 want.1 c.requires.writes c.new.ensures
    c.in_ok-put_changed.ensures
