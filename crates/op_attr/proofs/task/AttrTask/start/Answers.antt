use Rattle.op_attr.specs.declared.task.AttrTask.{AttrTask}
use Rattle.std.proofs.Common.{false}
use Rattle.op_attr.proofs.ReadLaws.{begins_so, begins_areas, begins_ready}
use Rattle.op_attr.proofs.task.AttrTask.start.Goals as goal

pub returns-clause-effect : goal.returns-clause-effect
returns-clause-effect c =
    let task : AttrTask = record { config = c.args.config.now; call = c.args.call; stage = c.in_ok-stage.stage; failed = false } in
    begins_so task c.args.request.now c.args.place.now c.requires.call (rw c.end_of.ensures at c.in_ok-stage.ensures.trip)

pub returns-clause-areas : goal.returns-clause-areas
returns-clause-areas c =
    let task : AttrTask = record { config = c.args.config.now; call = c.args.call; stage = c.in_ok-stage.stage; failed = false } in
    begins_areas task c.args.request.now c.args.place.now c.requires.call (rw c.end_of.ensures at c.in_ok-stage.ensures.trip)

pub returns-clause-ready : goal.returns-clause-ready
returns-clause-ready c = begins_ready c.args.request.now.stamp c.args.request.now.call c.args.call c.args.place.now c.requires.valid.call c.requires.call
