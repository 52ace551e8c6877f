use Rattle.op_create.proofs.CreateLaws.{at_node, no_name, stopped, has_come}
use Rattle.op_create.proofs.task.CreateTask.at_end.Goals as goal

pub returns-in-At : goal.returns-in-At
returns-in-At c = rw c.in-At.is (at_node c.args.self.now c.args.txn.now c.requires.writes c.in-At.field-0 c.in-At.field-1)

pub returns-in-NoName : goal.returns-in-NoName
returns-in-NoName c = rw c.in-NoName.is (no_name c.args.self.now c.args.txn.now c.requires.writes c.in-NoName.field-0)

pub returns-in-Stopped : goal.returns-in-Stopped
returns-in-Stopped c = rw c.in-Stopped.is (stopped c.args.self.now c.args.txn.now c.requires.writes c.in-Stopped.code)

pub make-requires-clause-come : goal.make-requires-clause-come
make-requires-clause-come c = has_come c.args.self.now c.args.txn.now.reads c.in-AtParent.dir c.in-AtParent.name c.requires.ready (rw c.in-AtParent.is at c.requires.end)
