use Rattle.path_walk.specs.Footprint.{child_at}
use Rattle.path_walk.specs.Stages.{trip_at}
use Rattle.path_walk.proofs.StepLaws.{way_asks, way_ends}
use Rattle.op_create.specs.Create.{made_at}
use Rattle.op_create.proofs.CreateLaws.{ready_on}
use Rattle.op_create.proofs.task.CreateTask.go_on.Goals as goal

pub returns-in-Ask-clause-step : goal.returns-in-Ask-clause-step
returns-in-Ask-clause-step c =
    let task = c.args.self.now in
    way_asks task.config (child_at task.server) (made_at task) c.args.txn.now (trip_at task.stage) (trip_at c.next.new.self) c.in_ok-ask.ensures.keeps c.requires.writes c.in-Ask.ask (rw c.in-Ask.is at c.in_ok-ask.ensures.reached)

pub returns-in_ok-step-in-End-clause-step : goal.returns-in_ok-step-in-End-clause-step
returns-in_ok-step-in-End-clause-step c =
    let task = c.args.self.now in
    way_ends task.config (child_at task.server) (made_at task) c.args.txn.now (trip_at task.stage) (trip_at c.next.new.self) c.in_ok-ask.ensures.keeps c.in-End.walked (rw c.in-End.is at c.in_ok-ask.ensures.reached)
    c.at_end.new.txn c.in_ok-step-in-End.step c.in_ok-step-in-End.ensures

pub at_end-requires-clause-ready : goal.at_end-requires-clause-ready
at_end-requires-clause-ready c = ready_on c.args.self.now c.next.new.self c.requires.ready c.in_ok-ask.ensures.same

pub returns-in-Ask-clause-ready : goal.returns-in-Ask-clause-ready
returns-in-Ask-clause-ready c = ready_on c.args.self.now c.next.new.self c.requires.ready c.in_ok-ask.ensures.same

pub returns-in_ok-step-in-End-clause-ready : goal.returns-in_ok-step-in-End-clause-ready
returns-in_ok-step-in-End-clause-ready c = ready_on c.args.self.now c.next.new.self c.requires.ready c.in_ok-ask.ensures.same
