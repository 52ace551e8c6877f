use Rattle.std.proofs.Common.{subst, sym}
use Rattle.path_walk.specs.Stages.{trip_at}
use Rattle.path_walk.specs.Walks.{KeepsTrip, trip_of}
use Rattle.path_walk.specs.declared.stage.Stage.{Stage}
use Rattle.path_walk.proofs.stage.Stage.next.Goals as goal

pub returns-in_ok-step-in-Walking-clause-keeps : goal.returns-in_ok-step-in-Walking-clause-keeps
returns-in_ok-step-in-Walking-clause-keeps c =
    subst (λ (stage : Stage). KeepsTrip (trip_at stage) (trip_of c.next.new.self) c.args.txn.now.reads) (sym c.in-Walking.is) c.in_ok-step-in-Walking.ensures.keeps
