-- How a task begins: by its call, and where the walk of its place is to end.
use Rattle.std.specs.Prelude.{◌≡◌, ℕ}
use Rattle.fs_base.specs.declared.call.Call.{Call}
use Rattle.fs_base.specs.declared.call.Call.TheVariants as calls
use Rattle.fs_base.specs.declared.call.Place.{Place}
use Rattle.tree_model.specs.declared.walk.WalkEnd.{WalkEnd}
use Rattle.tree_model.specs.declared.walk.WalkEnd.TheVariants.{Follow, NoFollow}
use Rattle.op_attr.specs.declared.task.AttrCall.{AttrCall}
use Rattle.op_attr.specs.declared.task.AttrCall.TheVariants as attr

-- a link as the last name is what lookup and readlink ask about
abbrev pub attr_end : AttrCall → WalkEnd
attr_end attr.Lookup = NoFollow
attr_end attr.Readlink = NoFollow
attr_end _ = Follow

-- the call of a request with this stamp, and its place
abbrev pub IsAttrCallAt : ℕ → Call → AttrCall → Place → Type 0
IsAttrCallAt stamp (calls.Lookup at) call place = (place ≡ at) × (call ≡ attr.Lookup)
IsAttrCallAt stamp (calls.Stat at) call place = (place ≡ at) × (call ≡ attr.Stat)
IsAttrCallAt stamp (calls.List at) call place = (place ≡ at) × (call ≡ attr.List)
IsAttrCallAt stamp (calls.Readlink at) call place = (place ≡ at) × (call ≡ attr.Readlink)
IsAttrCallAt stamp (calls.Setattr at given) call place = (place ≡ at) × (call ≡ attr.Setattr stamp given)
IsAttrCallAt stamp _ call place = ⊥
