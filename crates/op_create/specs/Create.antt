-- What a call that makes a node comes to while it is under way, and what it still reads.
use Rattle.std.specs.Prelude.{◌≡◌, ◌<◌, true, List}
use Rattle.conflict_sets.specs.declared.sets.ReadSet.{ReadSet}
use Rattle.fs_base.specs.Config.{Settings}
use Rattle.fs_base.specs.declared.call.Call.{Call}
use Rattle.fs_base.specs.declared.call.Call.TheVariants as calls
use Rattle.fs_base.specs.declared.limits.TheConstants.{MODES, SERVERS, TIMES}
use Rattle.row_tree.specs.NewRows.{IsPart}
use Rattle.row_tree.specs.TypedRows.{TypedRows}
use Rattle.row_tree.specs.WellFormed.{IsWellFormed}
use Rattle.tree_model.specs.declared.new_node.NewNode.{NewNode}
use Rattle.tree_model.specs.declared.walk.Walked.{Walked}
use Rattle.tree_model.specs.Creating.{admits_given, make_at}
use Rattle.tree_model.specs.Effects.{Effect}
use Rattle.tree_model.specs.Tree.{Tree}
use Rattle.txn_task.specs.Agreeing.{Agrees}
use Rattle.txn_task.specs.Transactions.{Transaction}
use Rattle.txn_task.specs.declared.messages.OpStep.{OpStep}
use Rattle.path_walk.specs.Areas.{Area}
use Rattle.path_walk.specs.Footprint.{child_at}
use Rattle.path_walk.specs.Owed.{HasDone}
use Rattle.path_walk.specs.Stages.{does, looks, trip_at}
use Rattle.path_walk.specs.declared.stage.Stage.{Stage}
use Rattle.path_walk.specs.declared.stage.Stage.TheVariants.{Refused, Walking}
use Rattle.op_create.specs.declared.task.CreateTask.{CreateTask}

-- the calls of this task
abbrev pub IsCreateCall : Call → Type 0
IsCreateCall (calls.Mkdir place mode layout) = Unit {0}
IsCreateCall (calls.Create place mode layout) = Unit {0}
IsCreateCall (calls.Symlink place target) = Unit {0}
IsCreateCall _ = ⊥

-- what the call does where its way ends
abbrev pub made_at : CreateTask → Tree → Walked → Effect
made_at task T walked = make_at task.config T task.server task.stamp task.node walked

abbrev pub create_effect : CreateTask → Tree → Effect
create_effect task = does (made_at task) (trip_at task.stage)

abbrev pub create_areas : CreateTask → Tree → List Area
create_areas task = looks (child_at task.server) (trip_at task.stage)

-- a step there
abbrev pub IsCreateEndStep : CreateTask → Walked → Transaction → Transaction → OpStep → Type 0
IsCreateEndStep task walked before after s =
    HasDone task.config (λ T. child_at task.server T walked) (λ T. made_at task T walked) before after s

-- ---- what the row of the new node asks

-- past the words of the call
pub record IsMaking (C : Settings) (node : NewNode) : Type 0 where
  pub layout : admits_given C node.layout ≡ true
  pub part : IsPart node.part

abbrev pub IsWalkReady : Settings → NewNode → Stage → Type 0
IsWalkReady C node (Refused code) = Unit {0}
IsWalkReady C node (Walking walk) = IsMaking C node

-- numbers in their ranges, and past the words where the walk is under way
abbrev pub IsCreateReady : CreateTask → Type 0
IsCreateReady task =
    (task.server < SERVERS) × (task.node.mode < MODES) × (task.stamp < TIMES)
    × IsWalkReady task.config task.node task.stage

-- where well-formed rows agree with the reads, the way has come past the words
abbrev pub HasComeTo : CreateTask → ReadSet → Type 0
HasComeTo task reads =
    (S : TypedRows) → IsWellFormed task.config S → Agrees S reads → IsMaking task.config task.node
