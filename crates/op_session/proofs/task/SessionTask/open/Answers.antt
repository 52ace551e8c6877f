use Rattle.path_walk.proofs.StepLaws.{stamp_fits}
use Rattle.op_session.proofs.OpenLaws.{begins_ready}
use Rattle.op_session.proofs.task.SessionTask.open.Goals as goal

pub returns-clause-ready : goal.returns-clause-ready
returns-clause-ready c =
    let q = c.args.request.now in
    begins_ready q q.call c.args.mode c.args.place.now c.requires.number (stamp_fits q.stamp q.call c.requires.ranges) c.requires.call
