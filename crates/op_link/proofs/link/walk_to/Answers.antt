use Rattle.key_schema.specs.declared.key.Key.TheVariants as keys
use Rattle.path_walk.specs.Footprint.{free_name_at, way_to}
use Rattle.path_walk.specs.Stages.{trip_at}
use Rattle.path_walk.proofs.StepLaws.{begun_done, way_asks, way_ends}
use Rattle.tree_model.specs.Linking.{link_to}
use Rattle.op_link.proofs.link.walk_to.Goals as goal

pub returns-in-Ask : goal.returns-in-Ask
returns-in-Ask c = λ C.
    begun_done C (free_name_at (keys.Inode c.args.id)) (λ T. link_to T c.args.stamp c.args.id) (way_to c.args.to.now) (trip_at c.in_ok-stage.stage) (trip_at c.next.new.self) c.args.txn.now c.args.txn.now _ c.in_ok-stage.ensures.trip
    (way_asks C (free_name_at (keys.Inode c.args.id)) (λ T. link_to T c.args.stamp c.args.id) c.args.txn.now (trip_at c.in_ok-stage.stage) (trip_at c.next.new.self) c.in_ok-ask.ensures.keeps c.requires.writes c.in-Ask.ask (rw c.in-Ask.is at c.in_ok-ask.ensures.reached))

pub returns : goal.returns
returns c = λ C.
    begun_done C (free_name_at (keys.Inode c.args.id)) (λ T. link_to T c.args.stamp c.args.id) (way_to c.args.to.now) (trip_at c.in_ok-stage.stage) (trip_at c.next.new.self) c.args.txn.now c.join_at.new.txn _ c.in_ok-stage.ensures.trip
    (way_ends C (free_name_at (keys.Inode c.args.id)) (λ T. link_to T c.args.stamp c.args.id) c.args.txn.now (trip_at c.in_ok-stage.stage) (trip_at c.next.new.self) c.in_ok-ask.ensures.keeps c.in-End.walked (rw c.in-End.is at c.in_ok-ask.ensures.reached)
    c.join_at.new.txn c.in_ok-step-in-End.step (c.in_ok-step-in-End.ensures C))
