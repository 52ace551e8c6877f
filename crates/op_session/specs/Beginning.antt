-- How a task begins: by its call.
use Rattle.std.specs.Prelude.{◌≡◌}
use Rattle.fs_base.specs.declared.call.Call.{Call}
use Rattle.fs_base.specs.declared.call.Call.TheVariants as calls
use Rattle.fs_base.specs.declared.call.Place.{Place}
use Rattle.fs_base.specs.declared.call.Request.{Request}
use Rattle.fs_base.specs.declared.call.Session.{Session}
use Rattle.op_session.specs.declared.task.HeldCall.{HeldCall}
use Rattle.op_session.specs.declared.task.HeldCall.TheVariants as held
use Rattle.op_session.specs.declared.task.OpenMode.{OpenMode}
use Rattle.op_session.specs.declared.task.OpenMode.TheVariants as modes

-- the call of a request opens the file at a place; a session has the request's number and stamp
abbrev pub IsOpenOf : Request → Call → OpenMode → Place → Type 0
IsOpenOf q (calls.Openr at) mode place = (place ≡ at) × (mode ≡ modes.Read)
IsOpenOf q (calls.Open at) mode place = (place ≡ at) × (mode ≡ modes.Write q.number q.stamp)
IsOpenOf q _ mode place = ⊥

-- the call is by a session
abbrev pub IsHeldBy : Call → HeldCall → Session → Type 0
IsHeldBy (calls.Fstat by) call session = (session ≡ by) × (call ≡ held.Fstat)
IsHeldBy (calls.Extend by place) call session = (session ≡ by) × (call ≡ held.Extend place)
IsHeldBy _ call session = ⊥
