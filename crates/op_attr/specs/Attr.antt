-- What a query or setattr under way comes to, and what it still reads.
use Rattle.std.specs.Prelude.{IsTrue, List}
use Rattle.byte_fields.specs.Fields.{time}
use Rattle.fs_base.specs.declared.call.Call.{Call}
use Rattle.fs_base.specs.declared.call.Call.TheVariants as calls
use Rattle.row_records.specs.Calls.{changes}
use Rattle.tree_model.specs.declared.walk.Walked.{Walked}
use Rattle.tree_model.specs.Effects.{Effect, Leaves}
use Rattle.tree_model.specs.Finding.{found_of, stat_at, list_at, readlink_at, setattr_at}
use Rattle.tree_model.specs.Tree.{Tree}
use Rattle.path_walk.specs.Areas.{Area}
use Rattle.path_walk.specs.Footprint.{nothing_at, inode_at, link_row_at, entries_at}
use Rattle.path_walk.specs.Stages.{does, looks, trip_at}
use Rattle.op_attr.specs.declared.task.AttrCall.{AttrCall}
use Rattle.op_attr.specs.declared.task.AttrCall.TheVariants as attr
use Rattle.op_attr.specs.declared.task.AttrTask.{AttrTask}

-- the calls of this task
abbrev pub IsAttrCall : Call → Type 0
IsAttrCall (calls.Lookup place) = Unit {0}
IsAttrCall (calls.Stat place) = Unit {0}
IsAttrCall (calls.List place) = Unit {0}
IsAttrCall (calls.Readlink place) = Unit {0}
IsAttrCall (calls.Setattr place given) = Unit {0}
IsAttrCall _ = ⊥

-- what the call does where its walk ends
abbrev pub at_end_of : AttrCall → Tree → Walked → Effect
at_end_of attr.Lookup T walked = Leaves (found_of walked)
at_end_of attr.Stat T walked = stat_at T walked
at_end_of attr.List T walked = list_at T walked
at_end_of attr.Readlink T walked = readlink_at T walked
at_end_of (attr.Setattr stamp given) T walked = setattr_at T stamp given walked

-- what it reads there
abbrev pub read_at : AttrCall → Walked → List Area
read_at attr.Lookup = nothing_at
read_at attr.Stat = inode_at
read_at attr.List = entries_at
read_at attr.Readlink = link_row_at
read_at (attr.Setattr stamp given) = inode_at

abbrev pub attr_effect : AttrTask → Tree → Effect
attr_effect task = does (at_end_of task.call) (trip_at task.stage)

abbrev pub attr_areas : AttrTask → Tree → List Area
attr_areas task = looks (λ T. read_at task.call) (trip_at task.stage)

-- the numbers that setattr sets are in their ranges: a time, and those of a call's changes
abbrev pub MaySet : AttrCall → Type 0
MaySet (attr.Setattr stamp given) = IsTrue (time.fits stamp) × IsTrue (changes.fits given)
MaySet _ = Unit {0}

abbrev pub IsAttrReady : AttrTask → Type 0
IsAttrReady task = MaySet task.call
