-- The changes of rows that the calls are made of.
use Rattle.std.specs.Prelude.{◌≡◌, ◌≢◌, ◌⊎◌, ℕ, ◌+◌, ◌^◌, ◌<◌, ◌≤◌, List, [], ◌∷◌, Option, Some, None}
use Rattle.std.specs.Ordering.{nat_cmp}
use Rattle.std.specs.FinMap.{FinMap, get, insert, remove}
use Rattle.fs_base.specs.Config.{Settings}
use Rattle.fs_base.specs.declared.kind.Kind.TheVariants as kinds
use Rattle.fs_base.specs.declared.limits.TheConstants.{SERVERS}
use Rattle.inode_record.specs.declared.inode.InodePart.{InodePart}
use Rattle.inode_record.specs.declared.inode.InodePart.TheVariants as parts
use Rattle.inode_record.specs.declared.inode.InodeRow.{InodeRow}
use Rattle.row_records.specs.declared.rows.DentRow.{DentRow}
use Rattle.row_records.specs.declared.rows.GcRow.{GcRow}
use Rattle.row_records.specs.declared.rows.GcRow.TheVariants.{Waiting}
use Rattle.row_records.specs.declared.rows.KeptRow.{KeptRow}
use Rattle.tree_model.specs.Maps.{set}
use Rattle.tree_model.specs.Tree.{next_at}
use Rattle.tree_model.specs.Creating.{id_of}
use Rattle.row_tree.specs.TypedRows.{TypedRows, kind_of, parent_of, parent_at, entries_to}
use Rattle.row_tree.specs.WellFormed.{HasKind, FitsConfig}

-- ---- a node added

-- the id that a server gives next
abbrev pub next_id : TypedRows → ℕ → ℕ
next_id S server = id_of (next_at S.next server) server

-- the server's next number raised, the inode's row, and the entry that leads to it
abbrev pub with_node : TypedRows → ℕ → ℕ → List ℕ → InodeRow → TypedRows
with_node S server dir name row =
    record S {
      inodes = insert S.inodes (next_id S server) row;
      dents = insert S.dents (dir, name) (record { inode = next_id S server; kind = kind_of row.part });
      next = insert S.next server (next_at S.next server + 1);
    }

-- by one of 16 servers, which has a number left; under a free name of a directory, with the one entry
pub record MayAdd (C : Settings) (S : TypedRows) (server dir : ℕ) (name : List ℕ) (row : InodeRow) : Type 0
  where
    pub in_range : server < SERVERS
    pub room : next_at S.next server + 1 < 2 ^ 32
    pub parent : HasKind S dir kinds.Dir
    pub free : get S.dents (dir, name) ≡ None
    pub one : row.links ≡ 1
    pub fits : FitsConfig C (next_id S server) row.part
    pub inside : kind_of row.part ≡ kinds.Dir → parent_of row.part ≡ Some dir

-- ---- fields of an inode's row changed

abbrev pub with_row : TypedRows → ℕ → InodeRow → TypedRows
with_row S id row = record S { inodes = insert S.inodes id row }

-- from old to row: of the same kind, parent and link count
pub record MayChange (C : Settings) (S : TypedRows) (id : ℕ) (old row : InodeRow) : Type 0 where
  pub there : get S.inodes id ≡ Some old
  pub kind : kind_of row.part ≡ kind_of old.part
  pub parent : parent_of row.part ≡ parent_of old.part
  pub links : row.links ≡ old.links
  pub fits : FitsConfig C id row.part

-- ---- a file's hint changed

abbrev pub part_hinted : ℕ → InodePart → InodePart
part_hinted hint (parts.Dir parent chunk stripe) = parts.Dir parent chunk stripe
part_hinted hint (parts.File length truncs layout old) = parts.File length truncs layout hint
part_hinted hint (parts.Link target) = parts.Link target

-- no other field changes
abbrev pub hinted_row : ℕ → InodeRow → InodeRow
hinted_row hint row = record row { part = part_hinted hint row.part }

-- ---- a session put, by inode, client and number, with the stamp of the open

abbrev pub with_session : TypedRows → ℕ → ℕ → ℕ → ℕ → TypedRows
with_session S inode client number stamp =
    record S { sessions = insert S.sessions (inode, (client, number)) stamp }

-- ---- a client's kept reply put

abbrev pub with_kept : TypedRows → ℕ → KeptRow → TypedRows
with_kept S client row = record S { kept = insert S.kept client row }

-- ---- an entry of a node added or taken away

-- 1 for an entry
abbrev pub count_if : Option DentRow → ℕ
count_if None = 0
count_if (Some e) = 1

-- the row with another count of entries, and the stamp as its change time
abbrev pub recounted : ℕ → ℕ → InodeRow → InodeRow
recounted stamp links row = record row { links = links; ctime = stamp }

-- another entry of a node, or none, at a name; the node's row, and the rows of deletion
abbrev pub with_entry : TypedRows → ℕ → List ℕ → Option DentRow → ℕ → InodeRow → FinMap nat_cmp GcRow
    → TypedRows
with_entry S dir name entry id row doomed =
    record S { inodes = insert S.inodes id row; dents = set S.dents (dir, name) entry; doomed = doomed }

-- what stood at the name and what stands there lead to the node, no directory, whose row counts one as the
-- other;
-- a file that has lost its last entry waits
pub record MayRelink (S : TypedRows) (dir : ℕ) (name : List ℕ) (entry : Option DentRow) (id : ℕ)
    (old row : InodeRow) (doomed : FinMap nat_cmp GcRow) : Type 0 where
  pub there : get S.inodes id ≡ Some old
  pub linked : 1 ≤ old.links
  pub no_dir : kind_of old.part ≢ kinds.Dir
  pub part : row.part ≡ old.part
  pub was : (e : DentRow) → get S.dents (dir, name) ≡ Some e → e.inode ≡ id
  pub is : (e : DentRow) → entry ≡ Some e → (e.inode ≡ id) × (e.kind ≡ kind_of old.part)
      × HasKind S dir kinds.Dir
  pub count : count_if (get S.dents (dir, name)) + row.links ≡ old.links + count_if entry
  pub fate : ((1 ≤ row.links) × (doomed ≡ S.doomed))
      ⊎ ((row.links ≡ 0) × (kind_of old.part ≡ kinds.File) × (doomed ≡ insert S.doomed id Waiting))

-- ---- a node taken away with its only entry

-- no file, and no entry lies in it
pub record MayRemove (S : TypedRows) (dir : ℕ) (name : List ℕ) (e : DentRow) : Type 0 where
  pub entry : get S.dents (dir, name) ≡ Some e
  pub only : entries_to S e.inode ≡ 1
  pub no_file : e.kind ≢ kinds.File
  pub empty : (other : List ℕ) → get S.dents (e.inode, other) ≡ None

abbrev pub without_node : TypedRows → ℕ → List ℕ → DentRow → TypedRows
without_node S dir name e = record S { inodes = remove S.inodes e.inode; dents = remove S.dents (dir, name) }

-- ---- an entry moved

-- a directory's row under another parent; any other row stays
abbrev pub reparented : ℕ → InodePart → InodePart
reparented parent (parts.Dir before chunk stripe) = parts.Dir parent chunk stripe
reparented parent (parts.File length truncs layout hint) = parts.File length truncs layout hint
reparented parent (parts.Link target) = parts.Link target

abbrev pub under : ℕ → InodeRow → InodeRow
under parent row = record row { part = reparented parent row.part }

-- from a directory up to the root, along these ids, none of which is the given one
abbrev pub IsPathAround : TypedRows → ℕ → ℕ → List ℕ → Type 0
IsPathAround S id dir [] = (dir ≢ id) × (dir ≡ 0)
IsPathAround S id dir (parent ∷ path) =
    (dir ≢ id) × (parent_at S dir ≡ Some parent) × IsPathAround S id parent path

-- an entry and its node's row, to a free name of a directory, which for a directory doesn't lie below it
pub record MayMove (S : TypedRows) (dir : ℕ) (name : List ℕ) (e : DentRow) (row : InodeRow) (to : ℕ)
    (new : List ℕ) : Type 0 where
  pub entry : get S.dents (dir, name) ≡ Some e
  pub there : get S.inodes e.inode ≡ Some row
  pub parent : HasKind S to kinds.Dir
  pub free : get S.dents (to, new) ≡ None
  pub around : e.kind ≡ kinds.Dir → (path : List ℕ) × IsPathAround S e.inode to path

abbrev pub with_move : TypedRows → ℕ → List ℕ → DentRow → InodeRow → ℕ → List ℕ → TypedRows
with_move S dir name e row to new =
    record S {
      inodes = insert S.inodes e.inode (under to row);
      dents = insert (remove S.dents (dir, name))
          (to, new) e;
    }
