use Rattle.op_link.proofs.JoinLaws.{to_node, to_no_name, to_stopped}
use Rattle.op_link.proofs.join.join_at.Goals as goal

pub returns-in-At : goal.returns-in-At
returns-in-At c = rw c.in-At.is (to_node c.args.txn.now c.requires.writes c.args.id c.args.stamp c.in-At.field-0 c.in-At.field-1)

pub returns-in-NoName : goal.returns-in-NoName
returns-in-NoName c = rw c.in-NoName.is (to_no_name c.args.txn.now c.requires.writes c.args.id c.args.stamp c.in-NoName.field-0)

pub returns-in-Stopped : goal.returns-in-Stopped
returns-in-Stopped c = rw c.in-Stopped.is (to_stopped c.args.txn.now c.requires.writes c.args.id c.args.stamp c.in-Stopped.code)

pub returns-in_ok-step-in-AtParent : goal.returns-in_ok-step-in-AtParent
returns-in_ok-step-in-AtParent c = rw c.in-AtParent.is c.in_ok-step-in-AtParent.ensures
