use Rattle.op_rename.proofs.SourceLaws.{at_node, no_name, stopped}
use Rattle.op_rename.proofs.source.rename_at.Goals as goal

pub returns-in-At : goal.returns-in-At
returns-in-At c = rw c.in-At.is (at_node c.args.txn.now c.requires.writes c.args.to.now c.args.stamp c.in-At.field-0 c.in-At.field-1)

pub returns-in-NoName : goal.returns-in-NoName
returns-in-NoName c = rw c.in-NoName.is (no_name c.args.txn.now c.requires.writes c.args.to.now c.args.stamp c.in-NoName.field-0)

pub returns-in-Stopped : goal.returns-in-Stopped
returns-in-Stopped c = rw c.in-Stopped.is (stopped c.args.txn.now c.requires.writes c.args.to.now c.args.stamp c.in-Stopped.code)

pub returns-in_ok-step-in-AtParent : goal.returns-in_ok-step-in-AtParent
returns-in_ok-step-in-AtParent c = rw c.in-AtParent.is c.in_ok-step-in-AtParent.ensures
