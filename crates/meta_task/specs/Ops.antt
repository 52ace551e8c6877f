-- The task of any call that is built.
use Rattle.std.specs.Prelude.{◌≡◌, List}
use Rattle.fs_base.specs.Config.{Settings}
use Rattle.fs_base.specs.declared.call.Call.{Call}
use Rattle.fs_base.specs.declared.call.Request.{Request}
use Rattle.tree_model.specs.Calls.{effect}
use Rattle.tree_model.specs.Effects.{Effect}
use Rattle.tree_model.specs.Tree.{Tree}
use Rattle.path_walk.specs.Areas.{Area}
use Rattle.path_walk.specs.Footprint.{call_areas}
use Rattle.op_attr.specs.Attr as attr
use Rattle.op_create.specs.Create as create
use Rattle.op_link.specs.Link as link
use Rattle.op_rename.specs.Rename as rename
use Rattle.op_session.specs.Session as session
use Rattle.meta_task.specs.declared.op.OpTask.{OpTask}
use Rattle.meta_task.specs.declared.op.OpTask.TheVariants.{Attr, Create, Link, Rename, Session}
use Rattle.meta_task.specs.declared.op.TaskKind.{TaskKind}
use Rattle.meta_task.specs.declared.op.TaskKind.TheVariants as kinds

-- the calls that a task does
abbrev pub IsOfKind : TaskKind → Call → Type 0
IsOfKind kinds.Attr call = attr.IsAttrCall call
IsOfKind kinds.Create call = create.IsCreateCall call
IsOfKind kinds.Link call = link.IsLinkCall call
IsOfKind kinds.Rename call = rename.IsRenameCall call
IsOfKind kinds.Session call = session.IsSessionCall call

abbrev pub op_config : OpTask → Settings
op_config (Attr task) = task.config
op_config (Create task) = task.config
op_config (Link task) = task.config
op_config (Rename task) = task.config
op_config (Session task) = task.config

abbrev pub op_effect : OpTask → Tree → Effect
op_effect (Attr task) = attr.attr_effect task
op_effect (Create task) = create.create_effect task
op_effect (Link task) = link.link_effect task
op_effect (Rename task) = rename.rename_effect task
op_effect (Session task) = session.session_effect task

abbrev pub op_areas : OpTask → Tree → List Area
op_areas (Attr task) = attr.attr_areas task
op_areas (Create task) = create.create_areas task
op_areas (Link task) = link.link_areas task
op_areas (Rename task) = rename.rename_areas task
op_areas (Session task) = session.session_task_areas task

abbrev pub IsOpReady : OpTask → Type 0
IsOpReady (Attr task) = attr.IsAttrReady task
IsOpReady (Create task) = create.IsCreateReady task
IsOpReady (Link task) = link.IsLinkReady task
IsOpReady (Rename task) = rename.IsRenameReady task
IsOpReady (Session task) = session.IsSessionReady task

-- a task of the request, before its first step
pub record IsFirstOp (C : Settings) (q : Request) (op : OpTask) : Type 0 where
  pub config : op_config op ≡ C
  pub effect : (T : Tree) → op_effect op T ≡ effect C T q
  pub areas : (T : Tree) → op_areas op T ≡ call_areas C T q q.call
  pub ready : IsOpReady op
