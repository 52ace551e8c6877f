-- What is known of a directory that moves, and of what stands in its way.
use Rattle.std.specs.Prelude.{◌≡◌, ◌≢◌, ℕ, ◌<◌, ◌^◌, List, Option, Some, None}
use Rattle.std.specs.FinMap.{get}
use Rattle.conflict_sets.specs.declared.sets.ReadSet.{ReadSet}
use Rattle.fs_base.specs.Config.{Settings}
use Rattle.fs_base.specs.declared.kind.Kind.TheVariants as kinds
use Rattle.fs_base.specs.declared.limits.TheConstants.{INODE_IDS}
use Rattle.key_schema.specs.Ranges.{dir_prefix, raised}
use Rattle.row_records.specs.declared.rows.DentRow.{DentRow}
use Rattle.row_tree.specs.TypedRows.{TypedRows}
use Rattle.txn_task.specs.Agreeing.{Agrees}
use Rattle.txn_task.specs.Wanted.{IsFirstRead}
use Rattle.path_walk.specs.Climbing.{climbed}
use Rattle.path_walk.specs.Directories.{IsDirRead, IsEntryRead, IsNameRead}
use Rattle.path_walk.specs.Owed.{HasRead}
use Rattle.op_rename.specs.Climb.{LiesBeside}
use Rattle.op_rename.specs.declared.place.Spots.{Spots}

-- both entries were read, and the directory where the entry is to come
pub record AreEntriesRead (reads : ReadSet) (spots : Spots) (e : DentRow)
    (taken : Option DentRow) : Type 0 where
  pub entry_read : IsEntryRead reads spots.from.dir spots.from.name e
  pub dir : IsDirRead reads spots.to.dir
  pub taken_read : IsNameRead reads spots.to.dir spots.to.name taken

-- both entries lead to one node
abbrev pub IsSameNode : DentRow → Option DentRow → Type 0
IsSameNode entry None = ⊥
IsSameNode entry (Some old) = old.inode ≡ entry.inode

-- another node stands there, or none
abbrev pub IsOtherNode : DentRow → Option DentRow → Type 0
IsOtherNode entry None = Unit {0}
IsOtherNode entry (Some old) = old.inode ≢ entry.inode

abbrev pub IsInRange : Option DentRow → Type 0
IsInRange None = Unit {0}
IsInRange (Some old) = old.inode < INODE_IDS

-- the entry leads to a directory, and its new place doesn't lie below that
pub record GoesBeside (reads : ReadSet) (spots : Spots) (entry : DentRow) : Type 0 where
  pub is_dir : entry.kind ≡ kinds.Dir
  pub way_read : (C : Settings) → HasRead C (λ T. climbed T entry.inode spots.to.dir) reads
  pub beside : (C : Settings) → LiesBeside C reads entry.inode spots.to.dir

-- nothing stands there, or a directory without entries
abbrev pub IsPlaceCleared : ReadSet → Option DentRow → Type 0
IsPlaceCleared reads None = Unit {0}
IsPlaceCleared reads (Some old) =
    (old.kind ≡ kinds.Dir)
    × IsFirstRead reads (dir_prefix old.inode) (raised (dir_prefix old.inode))
    × ((S : TypedRows) → Agrees S reads → (name : List ℕ) → get S.dents (old.inode, name) ≡ None)
