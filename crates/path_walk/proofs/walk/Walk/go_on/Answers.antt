use Rattle.path_walk.specs.Walks.{trip_of}
use Rattle.path_walk.proofs.WalkLaws.{keeps_on}
use Rattle.path_walk.proofs.walk.Walk.go_on.Goals as goal

pub returns-in-Some-2-clause-keeps : goal.returns-in-Some-2-clause-keeps
returns-in-Some-2-clause-keeps c = keeps_on (trip_of c.args.self.now) (trip_of c.loop-step.self) (trip_of c.run.new.self) c.args.txn.now.reads c.loop-step.invariant.keeps c.in_ok-step-2.ensures.keeps

pub loop-step-preserved : goal.loop-step-preserved
loop-step-preserved c = record {
  base = c.run.ensures.base;
  keeps = keeps_on (trip_of c.args.self.now) (trip_of c.loop-step.self) (trip_of c.run.new.self) c.args.txn.now.reads c.loop-step.invariant.keeps c.in_ok-step-2.ensures.keeps;
}
