-- What a rename under way comes to, and what it still reads.
use Rattle.std.specs.Prelude.{ℕ, IsTrue, List}
use Rattle.byte_fields.specs.Fields.{time}
use Rattle.fs_base.specs.declared.call.Call.{Call}
use Rattle.fs_base.specs.declared.call.Call.TheVariants as calls
use Rattle.fs_base.specs.declared.call.Place.{Place}
use Rattle.tree_model.specs.declared.walk.Walked.{Walked}
use Rattle.tree_model.specs.Effects.{Effect}
use Rattle.tree_model.specs.Moving.{rename_at}
use Rattle.tree_model.specs.Tree.{Tree}
use Rattle.path_walk.specs.Areas.{Area}
use Rattle.path_walk.specs.Footprint.{renamed_at, way_to}
use Rattle.path_walk.specs.Stages.{does, looks, trip_at}
use Rattle.op_rename.specs.declared.task.RenameTask.{RenameTask}

-- the call of this task
abbrev pub IsRenameCall : Call → Type 0
IsRenameCall (calls.Rename from to) = Unit {0}
IsRenameCall _ = ⊥

-- what is done where the first way ends, from which there is a second one
abbrev pub rename_does_at : Place → ℕ → Tree → Walked → Effect
rename_does_at to stamp T walked = rename_at T stamp walked (way_to to T).end

-- what is read there
abbrev pub rename_reads_at : Place → Tree → Walked → List Area
rename_reads_at to T = renamed_at T to

abbrev pub rename_effect : RenameTask → Tree → Effect
rename_effect task = does (rename_does_at task.to task.stamp) (trip_at task.stage)

abbrev pub rename_areas : RenameTask → Tree → List Area
rename_areas task = looks (rename_reads_at task.to) (trip_at task.stage)

-- a time that a row may have
abbrev pub IsRenameReady : RenameTask → Type 0
IsRenameReady task = IsTrue (time.fits task.stamp)
