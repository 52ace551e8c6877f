use Rattle.std.proofs.Common.{List}
use Rattle.tree_model.specs.declared.walk.Walked.{Walked}
use Rattle.tree_model.specs.Effects.{Effect}
use Rattle.tree_model.specs.Tree.{Tree}
use Rattle.path_walk.specs.Areas.{Area}
use Rattle.path_walk.specs.Footprint.{placed_at, way_to}
use Rattle.path_walk.specs.Stages.{trip_at}
use Rattle.path_walk.proofs.StepLaws.{begun_done, way_asks, way_ends}
use Rattle.op_rename.specs.Ending.{moves_from}
use Rattle.op_rename.proofs.source.walk_to.Goals as goal

pub returns-in-Ask : goal.returns-in-Ask
returns-in-Ask c = λ C.
    let at : Tree → Walked → List Area = λ T. placed_at T c.args.entry.kind c.args.entry.inode in
    let effect : Tree → Walked → Effect = moves_from c.args.from c.args.stamp in
    begun_done C at effect (way_to c.args.to.now) (trip_at c.in_ok-stage.stage) (trip_at c.next.new.self) c.args.txn.now c.args.txn.now _ c.in_ok-stage.ensures.trip
    (way_asks C at effect c.args.txn.now (trip_at c.in_ok-stage.stage) (trip_at c.next.new.self) c.in_ok-ask.ensures.keeps c.requires.writes c.in-Ask.ask (rw c.in-Ask.is at c.in_ok-ask.ensures.reached))

pub returns-in_ok-step-in-End : goal.returns-in_ok-step-in-End
returns-in_ok-step-in-End c = λ C.
    let at : Tree → Walked → List Area = λ T. placed_at T c.args.entry.kind c.args.entry.inode in
    let effect : Tree → Walked → Effect = moves_from c.args.from c.args.stamp in
    begun_done C at effect (way_to c.args.to.now) (trip_at c.in_ok-stage.stage) (trip_at c.next.new.self) c.args.txn.now c.place_at.new.txn _ c.in_ok-stage.ensures.trip
    (way_ends C at effect c.args.txn.now (trip_at c.in_ok-stage.stage) (trip_at c.next.new.self) c.in_ok-ask.ensures.keeps c.in-End.walked (rw c.in-End.is at c.in_ok-ask.ensures.reached)
    c.place_at.new.txn c.in_ok-step-in-End.step (c.in_ok-step-in-End.ensures C))
