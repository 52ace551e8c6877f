-- What open, openr, extend or fstat under way comes to, and what it still reads.
use Rattle.std.specs.Prelude.{◌≤◌, IsTrue, List}
use Rattle.byte_fields.specs.Fields.{time}
use Rattle.fs_base.specs.declared.call.Call.{Call}
use Rattle.fs_base.specs.declared.call.Call.TheVariants as calls
use Rattle.fs_base.specs.declared.call.Session.{Session}
use Rattle.fs_base.specs.declared.ids.ClientId.{ClientId}
use Rattle.tree_model.specs.declared.walk.Walked.{Walked}
use Rattle.tree_model.specs.Effects.{Effect}
use Rattle.tree_model.specs.Sessions.{extend, fstat, open_to_read_at, open_to_write_at}
use Rattle.tree_model.specs.Tree.{Tree}
use Rattle.path_walk.specs.Areas.{Area}
use Rattle.path_walk.specs.Footprint.{file_row_at, session_areas}
use Rattle.path_walk.specs.Stages.{does, looks, trip_at}
use Rattle.op_session.specs.declared.task.HeldCall.{HeldCall}
use Rattle.op_session.specs.declared.task.HeldCall.TheVariants as held
use Rattle.op_session.specs.declared.task.OpenMode.{OpenMode}
use Rattle.op_session.specs.declared.task.OpenMode.TheVariants as modes
use Rattle.op_session.specs.declared.task.SessionTask.{SessionTask}
use Rattle.op_session.specs.declared.task.SessionWork.{SessionWork}
use Rattle.op_session.specs.declared.task.SessionWork.TheVariants.{Opening, Held}

-- the calls of this task
abbrev pub IsSessionCall : Call → Type 0
IsSessionCall (calls.Openr place) = Unit {0}
IsSessionCall (calls.Open place) = Unit {0}
IsSessionCall (calls.Fstat session) = Unit {0}
IsSessionCall (calls.Extend session place) = Unit {0}
IsSessionCall _ = ⊥

-- what is done where the walk to a file ends
abbrev pub opens_at : OpenMode → ClientId → Tree → Walked → Effect
opens_at modes.Read client T walked = open_to_read_at T walked
opens_at (modes.Write number stamp) client T walked = open_to_write_at T client number walked

-- what is done by a session
abbrev pub does_by : HeldCall → ClientId → Session → Tree → Effect
does_by held.Fstat client session T = fstat T client session
does_by (held.Extend place) client session T = extend T client session place

abbrev pub work_effect : ClientId → SessionWork → Tree → Effect
work_effect client (Opening mode stage) T = does (opens_at mode client) (trip_at stage) T
work_effect client (Held call session) T = does_by call client session T

abbrev pub work_areas : ClientId → SessionWork → Tree → List Area
work_areas client (Opening mode stage) T = looks (λ T. file_row_at) (trip_at stage) T
work_areas client (Held call session) T = session_areas T client session

abbrev pub session_effect : SessionTask → Tree → Effect
session_effect task = work_effect task.client task.work

abbrev pub session_task_areas : SessionTask → Tree → List Area
session_task_areas task = work_areas task.client task.work

-- a session's number is one, and its stamp a time
abbrev pub MayOpen : OpenMode → Type 0
MayOpen modes.Read = Unit {0}
MayOpen (modes.Write number stamp) = (1 ≤ number) × IsTrue (time.fits stamp)

abbrev pub IsReadyWork : SessionWork → Type 0
IsReadyWork (Opening mode stage) = MayOpen mode
IsReadyWork (Held call session) = Unit {0}

abbrev pub IsSessionReady : SessionTask → Type 0
IsSessionReady task = IsReadyWork task.work
