use Rattle.op_link.proofs.SourceLaws.{has_source}
use Rattle.op_link.proofs.task.LinkTask.at_end.Goals as goal

pub link_at-requires-clause-source : goal.link_at-requires-clause-source
link_at-requires-clause-source c = has_source c.args.self.now.stage c.args.txn.now.reads c.args.walked c.requires.end

pub returns-in_ok-step-in-Rmdir : goal.returns-in_ok-step-in-Rmdir
returns-in_ok-step-in-Rmdir c = rw c.in-Rmdir.is (c.in_ok-step-in-Rmdir.ensures c.args.self.now.stamp)
