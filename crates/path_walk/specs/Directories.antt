-- What is known of rows that were read: a directory, an entry, an inode.
use Rattle.std.specs.Prelude.{◌≡◌, ℕ, List, Option, Some}
use Rattle.std.specs.FinMap.{get}
use Rattle.conflict_sets.specs.declared.sets.ReadSet.{ReadSet}
use Rattle.fs_base.specs.Config.{Settings}
use Rattle.fs_base.specs.declared.kind.Kind.TheVariants as kinds
use Rattle.inode_record.specs.declared.inode.InodeRow.{InodeRow}
use Rattle.key_schema.specs.declared.key.Key.TheVariants as keys
use Rattle.row_records.specs.declared.rows.DentRow.{DentRow}
use Rattle.row_tree.specs.TypedRows.{TypedRows, kind_of}
use Rattle.row_tree.specs.WellFormed.{IsWellFormed, HasKind}
use Rattle.txn_task.specs.Agreeing.{Agrees}
use Rattle.txn_task.specs.Wanted.{IsKeyRead, IsUnread}
use Rattle.path_walk.specs.declared.directory.InDir.{InDir}
use Rattle.path_walk.specs.declared.directory.InDir.TheVariants as found

-- its row was read, and in all rows that agree with the reads it is a directory
pub record IsDirRead (reads : ReadSet) (dir : ℕ) : Type 0 where
  pub row : InodeRow
  pub is_dir : kind_of row.part ≡ kinds.Dir
  pub seen : IsKeyRead reads (keys.Inode dir)
  pub there : (S : TypedRows) → Agrees S reads → get S.inodes dir ≡ Some row

-- no well-formed rows that agree have a directory there
abbrev pub IsNoDirRead : ReadSet → ℕ → Type 0
IsNoDirRead reads dir =
    IsKeyRead reads (keys.Inode dir)
    × ((C : Settings) (S : TypedRows) → IsWellFormed C S → Agrees S reads → HasKind S dir kinds.Dir → ⊥)

-- its row is still to be asked for, or none has a directory there, or all have one
abbrev pub IsDirFound : InDir → ReadSet → ℕ → Type 0
IsDirFound (found.Ask key) reads dir = (key ≡ keys.Inode dir) × IsUnread reads (keys.Inode dir)
IsDirFound found.NotDir reads dir = IsNoDirRead reads dir
IsDirFound found.Dir reads dir = IsDirRead reads dir

-- an entry that was read, or that none is there
pub record IsNameRead (reads : ReadSet) (dir : ℕ) (name : List ℕ) (entry : Option DentRow) : Type 0 where
  pub seen : IsKeyRead reads (keys.Dent dir name)
  pub there : (S : TypedRows) → Agrees S reads → get S.dents (dir, name) ≡ entry

abbrev pub IsEntryRead : ReadSet → ℕ → List ℕ → DentRow → Type 0
IsEntryRead reads dir name entry = IsNameRead reads dir name (Some entry)

-- the row of an inode that was read
pub record IsRowRead (reads : ReadSet) (id : ℕ) (row : InodeRow) : Type 0 where
  pub seen : IsKeyRead reads (keys.Inode id)
  pub there : (S : TypedRows) → Agrees S reads → get S.inodes id ≡ Some row
