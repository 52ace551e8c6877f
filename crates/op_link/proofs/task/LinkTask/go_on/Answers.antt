use Rattle.path_walk.specs.Stages.{trip_at}
use Rattle.path_walk.proofs.StepLaws.{way_asks, way_ends}
use Rattle.op_link.specs.Link.{link_does_at, link_reads_at}
use Rattle.op_link.proofs.task.LinkTask.go_on.Goals as goal

pub returns-in-Ask-clause-step : goal.returns-in-Ask-clause-step
returns-in-Ask-clause-step c =
    let task = c.args.self.now in
    way_asks task.config (link_reads_at task.call) (link_does_at task.call task.stamp) c.args.txn.now (trip_at task.stage) (trip_at c.next.new.self) c.in_ok-ask.ensures.keeps c.requires.writes c.in-Ask.ask (rw c.in-Ask.is at c.in_ok-ask.ensures.reached)

pub returns-in_ok-step-in-End-clause-step : goal.returns-in_ok-step-in-End-clause-step
returns-in_ok-step-in-End-clause-step c =
    let task = c.args.self.now in
    way_ends task.config (link_reads_at task.call) (link_does_at task.call task.stamp) c.args.txn.now (trip_at task.stage) (trip_at c.next.new.self) c.in_ok-ask.ensures.keeps c.in-End.walked (rw c.in-End.is at c.in_ok-ask.ensures.reached)
    c.at_end.new.txn c.in_ok-step-in-End.step (c.in_ok-step-in-End.ensures task.config)
