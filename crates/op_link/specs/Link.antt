-- What link, unlink or rmdir under way comes to, and what it still reads.
use Rattle.std.specs.Prelude.{ℕ, IsTrue, List}
use Rattle.byte_fields.specs.Fields.{time}
use Rattle.fs_base.specs.declared.call.Call.{Call}
use Rattle.fs_base.specs.declared.call.Call.TheVariants as calls
use Rattle.tree_model.specs.declared.walk.Walked.{Walked}
use Rattle.tree_model.specs.Effects.{Effect}
use Rattle.tree_model.specs.Linking.{link_at, unlink_at, rmdir_at}
use Rattle.tree_model.specs.Tree.{Tree}
use Rattle.path_walk.specs.Areas.{Area}
use Rattle.path_walk.specs.Footprint.{way_to, joined_at, unlinked_at, emptied_at}
use Rattle.path_walk.specs.Stages.{does, looks, trip_at}
use Rattle.op_link.specs.declared.task.LinkCall.{LinkCall}
use Rattle.op_link.specs.declared.task.LinkCall.TheVariants as link
use Rattle.op_link.specs.declared.task.LinkTask.{LinkTask}

-- the calls of this task
abbrev pub IsLinkCall : Call → Type 0
IsLinkCall (calls.Link from to) = Unit {0}
IsLinkCall (calls.Unlink place) = Unit {0}
IsLinkCall (calls.Rmdir place) = Unit {0}
IsLinkCall _ = ⊥

-- what the call does where its way ends; link has a second way from there
abbrev pub link_does_at : LinkCall → ℕ → Tree → Walked → Effect
link_does_at (link.Link to) stamp T walked = link_at T stamp walked (way_to to T).end
link_does_at link.Unlink stamp T walked = unlink_at T stamp walked
link_does_at link.Rmdir stamp T walked = rmdir_at T walked

-- what it reads there
abbrev pub link_reads_at : LinkCall → Tree → Walked → List Area
link_reads_at (link.Link to) T = joined_at T to
link_reads_at link.Unlink T = unlinked_at T
link_reads_at link.Rmdir T = emptied_at T

abbrev pub link_effect : LinkTask → Tree → Effect
link_effect task = does (link_does_at task.call task.stamp) (trip_at task.stage)

abbrev pub link_areas : LinkTask → Tree → List Area
link_areas task = looks (link_reads_at task.call) (trip_at task.stage)

-- a time that a row may have
abbrev pub IsLinkReady : LinkTask → Type 0
IsLinkReady task = IsTrue (time.fits task.stamp)
