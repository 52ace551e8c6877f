-- What the way up from a directory says of where it lies.
use Rattle.std.specs.Prelude.{◌≡◌, ℕ, List, Some, None}
use Rattle.conflict_sets.specs.declared.sets.ReadSet.{ReadSet}
use Rattle.fs_base.specs.Config.{Settings}
use Rattle.key_schema.specs.declared.key.Key.TheVariants as keys
use Rattle.row_tree.specs.Steps.{IsPathAround}
use Rattle.row_tree.specs.TreeOf.{tree_of}
use Rattle.row_tree.specs.TypedRows.{TypedRows, parent_at}
use Rattle.row_tree.specs.WellFormed.{IsWellFormed}
use Rattle.tree_model.specs.Below.{IsBelow}
use Rattle.txn_task.specs.Agreeing.{Agrees}
use Rattle.txn_task.specs.Wanted.{IsKeyRead, IsUnread}
use Rattle.txn_task.specs.declared.messages.Ask.TheVariants as asks
use Rattle.path_walk.specs.Climbing.{climbed}
use Rattle.path_walk.specs.Owed.{HasRead, MayAsk}
use Rattle.op_rename.specs.declared.climb.Above.{Above}
use Rattle.op_rename.specs.declared.climb.Above.TheVariants as found
use Rattle.op_rename.specs.declared.climb.Climb.{Climb}
use Rattle.op_rename.specs.declared.climb.Climb.TheVariants as climbs

-- its row is still to be asked for; or all rows that agree with the reads name this parent there, or none
abbrev pub IsParentFound : Above → ReadSet → ℕ → Type 0
IsParentFound (found.Ask key) reads dir = (key ≡ keys.Inode dir) × IsUnread reads (keys.Inode dir)
IsParentFound (found.Dir parent) reads dir =
    IsKeyRead reads (keys.Inode dir) × ((S : TypedRows) → Agrees S reads → parent_at S dir ≡ Some parent)
IsParentFound found.Nothing reads dir =
    IsKeyRead reads (keys.Inode dir) × ((S : TypedRows) → Agrees S reads → parent_at S dir ≡ None)

-- in all well-formed rows that agree with the reads, the directory is the source or lies below it
abbrev pub LiesBelow : Settings → ReadSet → ℕ → ℕ → Type 0
LiesBelow C reads source dir =
    (S : TypedRows) → IsWellFormed C S → Agrees S reads → IsBelow (tree_of S) source dir

-- in all of them the parents lead from the directory to the root, and not by the source
abbrev pub LiesBeside : Settings → ReadSet → ℕ → ℕ → Type 0
LiesBeside C reads source dir =
    (S : TypedRows) → IsWellFormed C S → Agrees S reads → (path : List ℕ) × IsPathAround S source dir path

-- the next inode on the way up; or all that is read on it was, and the directory lies below, or beside
abbrev pub IsClimbStep : Climb → ReadSet → ℕ → ℕ → Type 0
IsClimbStep (climbs.Ask key) reads source dir =
    IsUnread reads key × ((C : Settings) → MayAsk C (λ T. climbed T source dir) reads (asks.Get key))
IsClimbStep climbs.Found reads source dir =
    (C : Settings) → HasRead C (λ T. climbed T source dir) reads × LiesBelow C reads source dir
IsClimbStep climbs.Clear reads source dir =
    (C : Settings) → HasRead C (λ T. climbed T source dir) reads × LiesBeside C reads source dir
