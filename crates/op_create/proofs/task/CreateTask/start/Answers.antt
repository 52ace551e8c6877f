use Rattle.std.proofs.Common.{false, refl}
use Rattle.op_create.specs.declared.task.CreateTask.{CreateTask}
use Rattle.op_create.proofs.CreateLaws.{begins_so, begins_areas, begins_ready}
use Rattle.op_create.proofs.task.CreateTask.start.Goals as goal

pub returns-clause-effect : goal.returns-clause-effect
returns-clause-effect c =
    let task : CreateTask = record { config = c.args.config.now; server = c.args.request.now.server; stamp = c.args.request.now.stamp; node = c.args.node; stage = c.in_ok-stage.stage; failed = false } in
    begins_so task c.args.request.now c.args.place.now refl refl c.requires.made (rw c.in_ok-fault.ensures.fault at c.in_ok-stage.ensures.trip)

pub returns-clause-areas : goal.returns-clause-areas
returns-clause-areas c =
    let task : CreateTask = record { config = c.args.config.now; server = c.args.request.now.server; stamp = c.args.request.now.stamp; node = c.args.node; stage = c.in_ok-stage.stage; failed = false } in
    begins_areas task c.args.request.now c.args.place.now refl refl c.requires.made (rw c.in_ok-fault.ensures.fault at c.in_ok-stage.ensures.trip)

pub returns-clause-ready : goal.returns-clause-ready
returns-clause-ready c =
    let task : CreateTask = record { config = c.args.config.now; server = c.args.request.now.server; stamp = c.args.request.now.stamp; node = c.args.node; stage = c.in_ok-stage.stage; failed = false } in
    begins_ready task c.args.request.now c.args.place.now c.requires.valid c.few_servers.ensures refl refl c.requires.made (rw c.in_ok-fault.ensures.fault at c.in_ok-stage.ensures.clear)
