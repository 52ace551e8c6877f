use Rattle.std.proofs.Common.{◌∙◌}
use Rattle.path_walk.specs.Walks.{trip_of}
use Rattle.path_walk.proofs.WalkLaws.{keeps_on}
use Rattle.path_walk.proofs.walk.Walk.run.Goals as goal

pub returns-in-Stop-clause-keeps : goal.returns-in-Stop-clause-keeps
returns-in-Stop-clause-keeps c = keeps_on (trip_of c.args.self.now) (trip_of c.loop-step.self) (trip_of c.step.new.self) c.args.txn.now.reads c.loop-step.invariant.keeps c.in_ok-step.ensures.keeps

pub loop-step-preserved : goal.loop-step-preserved
loop-step-preserved c =
    let moved = rw c.in-Down.is at c.in_ok-step.ensures.moved in
    record {
      base = c.step.ensures.base;
      links = moved.1 ∙ c.loop-step.invariant.links;
      keeps = keeps_on (trip_of c.args.self.now) (trip_of c.loop-step.self) (trip_of c.step.new.self) c.args.txn.now.reads c.loop-step.invariant.keeps c.in_ok-step.ensures.keeps;
    }

pub returns-in-Followed-clause-keeps : goal.returns-in-Followed-clause-keeps
returns-in-Followed-clause-keeps c = keeps_on (trip_of c.args.self.now) (trip_of c.loop-step.self) (trip_of c.step.new.self) c.args.txn.now.reads c.loop-step.invariant.keeps c.in_ok-step.ensures.keeps
