use Rattle.meta_task.proofs.UnderLaws.{first_under}
use Rattle.meta_task.proofs.state.State.begin.Goals as goal

pub step-requires-clause-under : goal.step-requires-clause-under
step-requires-clause-under c = first_under c.args.self.now.config c.args.self.now.request c.args.self.now.txn.reads c.in_ok-op.op c.in_ok-op.ensures c.requires.new
