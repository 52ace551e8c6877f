use Rattle.std.proofs.Common.{false, refl}
use Rattle.op_link.specs.declared.task.LinkTask.{LinkTask}
use Rattle.path_walk.proofs.StepLaws.{stamp_fits}
use Rattle.op_link.proofs.StartLaws.{begins_so, begins_areas}
use Rattle.op_link.proofs.task.LinkTask.start.Goals as goal

pub returns-clause-effect : goal.returns-clause-effect
returns-clause-effect c =
    let task : LinkTask = record { config = c.args.config.now; stamp = c.args.request.now.stamp; call = c.args.call; stage = c.in_ok-stage.stage; failed = false } in
    begins_so c.args.config.now task c.args.request.now c.args.place.now refl c.requires.call (rw c.end_of.ensures at rw c.in_ok-fault.ensures.fault at c.in_ok-stage.ensures.trip)

pub returns-clause-areas : goal.returns-clause-areas
returns-clause-areas c =
    let task : LinkTask = record { config = c.args.config.now; stamp = c.args.request.now.stamp; call = c.args.call; stage = c.in_ok-stage.stage; failed = false } in
    begins_areas c.args.config.now task c.args.request.now c.args.place.now refl c.requires.call (rw c.end_of.ensures at rw c.in_ok-fault.ensures.fault at c.in_ok-stage.ensures.trip)

pub returns-clause-ready : goal.returns-clause-ready
returns-clause-ready c = stamp_fits c.args.request.now.stamp c.args.request.now.call c.requires.numbers
