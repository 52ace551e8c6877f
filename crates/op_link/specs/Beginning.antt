-- How a task begins: by its call, where the walk of its place is to end, and what else is wrong with its
-- words.
use Rattle.std.specs.Prelude.{◌≡◌, Option, None}
use Rattle.fs_base.specs.Paths.{path_of}
use Rattle.fs_base.specs.declared.call.Call.{Call}
use Rattle.fs_base.specs.declared.call.Call.TheVariants as calls
use Rattle.fs_base.specs.declared.call.Place.{Place}
use Rattle.fs_base.specs.declared.code.Code.{Code}
use Rattle.tree_model.specs.declared.walk.WalkEnd.{WalkEnd}
use Rattle.tree_model.specs.declared.walk.WalkEnd.TheVariants.{NoFollow, Parent}
use Rattle.path_walk.specs.Faults.{refusal}
use Rattle.op_link.specs.declared.task.LinkCall.{LinkCall}
use Rattle.op_link.specs.declared.task.LinkCall.TheVariants as link

-- a link as the last name is what gets a further entry
abbrev pub link_end : LinkCall → WalkEnd
link_end (link.Link to) = NoFollow
link_end link.Unlink = Parent
link_end link.Rmdir = Parent

-- the second path's words
abbrev pub fault_of : LinkCall → Option Code
fault_of (link.Link to) = refusal (path_of to.text)
fault_of link.Unlink = None
fault_of link.Rmdir = None

-- the call, and its first place
abbrev pub IsLinkCallAt : Call → LinkCall → Place → Type 0
IsLinkCallAt (calls.Link from to) call place = (place ≡ from) × (call ≡ link.Link to)
IsLinkCallAt (calls.Unlink at) call place = (place ≡ at) × (call ≡ link.Unlink)
IsLinkCallAt (calls.Rmdir at) call place = (place ≡ at) × (call ≡ link.Rmdir)
IsLinkCallAt _ call place = ⊥

-- only a second path's words take memory to be looked at
abbrev pub HasPlace : LinkCall → Type 0
HasPlace (link.Link to) = Unit {0}
HasPlace _ = ⊥
