use Rattle.path_walk.specs.Footprint.{file_row_at}
use Rattle.path_walk.specs.Stages.{trip_at}
use Rattle.path_walk.proofs.StepLaws.{way_asks, way_ends}
use Rattle.op_session.specs.Session.{opens_at}
use Rattle.op_session.proofs.opening.open_on.Goals as goal

pub returns-in-Ask : goal.returns-in-Ask
returns-in-Ask c C =
    way_asks C (λ T. file_row_at) (opens_at c.args.mode c.args.client) c.args.txn.now (trip_at c.args.stage.now) (trip_at c.next.new.self) c.in_ok-ask.ensures.keeps c.requires.writes c.in-Ask.ask (rw c.in-Ask.is at c.in_ok-ask.ensures.reached)

pub returns-in_ok-step-in-End : goal.returns-in_ok-step-in-End
returns-in_ok-step-in-End c C =
    way_ends C (λ T. file_row_at) (opens_at c.args.mode c.args.client) c.args.txn.now (trip_at c.args.stage.now) (trip_at c.next.new.self) c.in_ok-ask.ensures.keeps c.in-End.walked (rw c.in-End.is at c.in_ok-ask.ensures.reached)
    c.open_at.new.txn c.in_ok-step-in-End.step (c.in_ok-step-in-End.ensures C)
