-- When typed rows are those of a tree.
use Rattle.std.specs.Prelude.{◌≡◌, ◌≢◌, ℕ, ◌/◌, ◌%◌, ◌^◌, ◌<◌, ◌≤◌, IsTrue, List, [], ◌∷◌, Some, None}
use Rattle.std.specs.FinMap.{get}
use Rattle.fs_base.specs.Config.{Settings, admits, layout_at}
use Rattle.fs_base.specs.declared.kind.Kind.{Kind}
use Rattle.fs_base.specs.declared.kind.Kind.TheVariants as kinds
use Rattle.fs_base.specs.declared.layout.DefaultLayout.{DefaultLayout}
use Rattle.fs_base.specs.declared.layout.Layout.{Layout}
use Rattle.fs_base.specs.declared.limits.TheConstants.{SERVERS}
use Rattle.inode_record.specs.declared.inode.InodePart.{InodePart}
use Rattle.inode_record.specs.declared.inode.InodePart.TheVariants as parts
use Rattle.inode_record.specs.declared.inode.InodeRow.{InodeRow}
use Rattle.row_records.specs.declared.rows.DentRow.{DentRow}
use Rattle.row_records.specs.declared.rows.GcRow.{GcRow}
use Rattle.row_records.specs.declared.rows.GcRow.TheVariants.{Waiting, Purged}
use Rattle.tree_model.specs.Tree.{next_at}
use Rattle.row_tree.specs.TypedRows.{TypedRows, kind_of, parent_at, entries_to}

abbrev pub HasKind : TypedRows → ℕ → Kind → Type 0
HasKind S id kind = (row : InodeRow) × (get S.inodes id ≡ Some row) × (kind_of row.part ≡ kind)

-- a number that a server has given: 16 times a number from 1 to below its next, and the server
abbrev pub IsIdGiven : TypedRows → ℕ → Type 0
IsIdGiven S id = (1 ≤ id / 16) × (id / 16 < next_at S.next (id % 16))

-- up by parent ids to the root, along these ids
abbrev pub IsPath : TypedRows → ℕ → List ℕ → Type 0
IsPath S id [] = id ≡ 0
IsPath S id (parent ∷ path) = (parent_at S id ≡ Some parent) × IsPath S parent path

-- the parent and the target of an entry are there; a directory's row names the directory that it is in
pub record IsEntry (S : TypedRows) (dir : ℕ) (e : DentRow) : Type 0 where
  pub parent : HasKind S dir kinds.Dir
  pub target : HasKind S e.inode e.kind
  pub not_root : e.inode ≢ 0
  pub inside : e.kind ≡ kinds.Dir → parent_at S e.inode ≡ Some dir

-- an inode besides the root: as many entries as it counts, one for a directory, at least one for a link
pub record IsLinked (S : TypedRows) (id : ℕ) (row : InodeRow) : Type 0 where
  pub given : IsIdGiven S id
  pub count : row.links ≡ entries_to S id
  pub dir : kind_of row.part ≡ kinds.Dir → row.links ≡ 1
  pub link : kind_of row.part ≡ kinds.Link → 1 ≤ row.links
  pub file : kind_of row.part ≡ kinds.File → row.links ≡ 0 → get S.doomed id ≡ Some Waiting

-- the root is a directory that names itself as its parent, with link count 1, though no entry leads to it
pub record IsRootRow (row : InodeRow) : Type 0 where
  pub parent : (chunk : ℕ) × (stripe : ℕ) × (row.part ≡ parts.Dir 0 chunk stripe)
  pub links : row.links ≡ 1

-- a default that the configuration admits; a layout that a file of this id may have, with 1 to all of its
-- places in use
abbrev pub IsFileLayout : Settings → ℕ → Layout → Type 0
IsFileLayout C id layout =
    let given : DefaultLayout = record { chunk = layout.chunk; stripe = layout.stripe } in
    IsTrue (admits C given) × (layout ≡ layout_at C id given)

abbrev pub FitsConfig : Settings → ℕ → InodePart → Type 0
FitsConfig C id (parts.Dir parent chunk stripe) =
    IsTrue (admits C (record { chunk = chunk; stripe = stripe }))
FitsConfig C id (parts.File length truncs layout hint) =
    IsFileLayout C id layout × (1 ≤ hint) × (hint ≤ layout.stripe)
FitsConfig C id (parts.Link target) = Unit {0}

-- waiting: a file that no entry leads to; purged: no inode, and a layout of the id, by which chunks are found
abbrev pub IsDoomed : Settings → TypedRows → ℕ → GcRow → Type 0
IsDoomed C S id Waiting =
    (row : InodeRow) × (get S.inodes id ≡ Some row) × (kind_of row.part ≡ kinds.File) × (row.links ≡ 0)
IsDoomed C S id (Purged layout hint) =
    (get S.inodes id ≡ None) × IsFileLayout C id layout × (1 ≤ hint) × (hint ≤ layout.stripe)

-- What makes typed rows those of a tree, together with `Spells` of their bytes.
pub record IsWellFormed (C : Settings) (S : TypedRows) : Type 0 where
  pub root : (row : InodeRow) × (get S.inodes 0 ≡ Some row) × IsRootRow row
  pub linked : (id : ℕ) (row : InodeRow) → get S.inodes id ≡ Some row → id ≢ 0 → IsLinked S id row
  pub fits : (id : ℕ) (row : InodeRow) → get S.inodes id ≡ Some row → FitsConfig C id row.part
  pub leads : (id : ℕ) → HasKind S id kinds.Dir → (path : List ℕ) × IsPath S id path
  pub entry : (dir : ℕ) (name : List ℕ) (e : DentRow) → get S.dents (dir, name) ≡ Some e → IsEntry S dir e
  pub doomed : (id : ℕ) (g : GcRow) → get S.doomed id ≡ Some g → IsDoomed C S id g × IsIdGiven S id
  pub session : (inode client number stamp : ℕ) → get S.sessions (inode, (client, number)) ≡ Some stamp
      → HasKind S inode kinds.File
  pub numbers : (server next : ℕ) → get S.next server ≡ Some next → (1 ≤ next) × (next < 2 ^ 32)
      × (server < SERVERS)
