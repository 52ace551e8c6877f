use Rattle.std.proofs.Common.{false, refl}
use Rattle.path_walk.proofs.StepLaws.{stamp_fits}
use Rattle.op_rename.specs.declared.task.RenameTask.{RenameTask}
use Rattle.op_rename.proofs.StartLaws.{begins_so, begins_areas}
use Rattle.op_rename.proofs.task.RenameTask.start.Goals as goal

pub returns-clause-effect : goal.returns-clause-effect
returns-clause-effect c =
    let task : RenameTask = record { config = c.args.config.now; stamp = c.args.request.now.stamp; to = c.args.to.now; stage = c.in_ok-stage.stage; failed = false } in
    rw c.in_ok-try_clone.ensures.copy (begins_so c.args.config.now task c.args.request.now c.args.from.now refl c.requires.call (rw c.in_ok-fault.ensures at c.in_ok-stage.ensures.trip))

pub returns-clause-areas : goal.returns-clause-areas
returns-clause-areas c =
    let task : RenameTask = record { config = c.args.config.now; stamp = c.args.request.now.stamp; to = c.args.to.now; stage = c.in_ok-stage.stage; failed = false } in
    rw c.in_ok-try_clone.ensures.copy (begins_areas c.args.config.now task c.args.request.now c.args.from.now refl c.requires.call (rw c.in_ok-fault.ensures at c.in_ok-stage.ensures.trip))

pub returns-clause-ready : goal.returns-clause-ready
returns-clause-ready c = stamp_fits c.args.request.now.stamp c.args.request.now.call c.requires.numbers
