use Rattle.op_attr.proofs.ReadLaws.{at_parent, no_name, stopped}
use Rattle.op_attr.proofs.next.at_end.Goals as goal

pub returns-in-AtParent : goal.returns-in-AtParent
returns-in-AtParent c = rw c.in-AtParent.is (at_parent c.args.txn.now c.requires.writes c.args.call c.in-AtParent.field-0 c.in-AtParent.field-1)

pub returns-in-NoName : goal.returns-in-NoName
returns-in-NoName c = rw c.in-NoName.is (no_name c.args.txn.now c.requires.writes c.args.call c.in-NoName.field-0)

pub returns-in-Stopped : goal.returns-in-Stopped
returns-in-Stopped c = rw c.in-Stopped.is (stopped c.args.txn.now c.requires.writes c.args.call c.in-Stopped.code)
