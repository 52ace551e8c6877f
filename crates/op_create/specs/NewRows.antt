-- What is put for a new node, and what is known before.
use Rattle.std.specs.Prelude.{◌≡◌, ℕ, ◌+◌, List, [], ◌∷◌, Option, Some, None}
use Rattle.std.specs.FinMap.{get}
use Rattle.conflict_sets.specs.declared.sets.ReadSet.{ReadSet}
use Rattle.fs_base.specs.Config.{Settings}
use Rattle.fs_base.specs.declared.kind.Kind.TheVariants as kinds
use Rattle.fs_base.specs.declared.layout.DefaultLayout.{DefaultLayout}
use Rattle.inode_record.specs.declared.inode.InodePart.TheVariants as parts
use Rattle.inode_record.specs.declared.inode.InodeRow.{InodeRow}
use Rattle.key_schema.specs.declared.key.Key.{Key}
use Rattle.key_schema.specs.declared.key.Key.TheVariants as keys
use Rattle.row_tree.specs.NewRows.{new_entry, new_row}
use Rattle.row_tree.specs.Values.{Value, AllocValue, DentValue, InodeValue}
use Rattle.row_tree.specs.TypedRows.{TypedRows}
use Rattle.row_tree.specs.WellFormed.{IsWellFormed, HasKind}
use Rattle.tree_model.specs.Creating.{id_of}
use Rattle.tree_model.specs.Tree.{next_at}
use Rattle.txn_task.specs.Agreeing.{Agrees}
use Rattle.txn_task.specs.Wanted.{IsUnread, IsKeyRead}
use Rattle.op_create.specs.declared.next.InDir.{InDir}
use Rattle.op_create.specs.declared.next.InDir.TheVariants as found
use Rattle.op_create.specs.declared.task.CreateTask.{CreateTask}

-- the inode's row, the entry, and the server's next number raised; the last put stands first
abbrev pub node_puts : CreateTask → ℕ → List ℕ → DefaultLayout → ℕ → List (Key × Option Value)
node_puts task dir name layout number =
    let id = id_of number task.server in
    let row = new_row task.config task.node task.stamp id dir layout in
    (keys.Alloc task.server, Some (AllocValue (number + 1)))
    ∷ (keys.Dent dir name, Some (DentValue (new_entry id row))) ∷ (keys.Inode id, Some (InodeValue row))
    ∷ []

-- ---- what is known of the directory

-- it is a directory with this default
pub record HasDefault (reads : ReadSet) (dir : ℕ) (layout : DefaultLayout) : Type 0 where
  pub parent : ℕ
  pub row : InodeRow
  pub is_dir : row.part ≡ parts.Dir parent layout.chunk layout.stripe
  pub seen : IsKeyRead reads (keys.Inode dir)
  pub there : (S : TypedRows) → Agrees S reads → get S.inodes dir ≡ Some row

-- its row is still to be asked for, or no well-formed rows that agree have a directory there, or all have one
-- with this default
abbrev pub IsDefaultFound : InDir → ReadSet → ℕ → Type 0
IsDefaultFound (found.Ask key) reads dir = (key ≡ keys.Inode dir) × IsUnread reads (keys.Inode dir)
IsDefaultFound found.NotDir reads dir =
    IsKeyRead reads (keys.Inode dir)
    × ((C : Settings) (S : TypedRows) → IsWellFormed C S → Agrees S reads → HasKind S dir kinds.Dir → ⊥)
IsDefaultFound (found.Default layout) reads dir = HasDefault reads dir layout

-- the directory has this default, the name is free in it, and the server's next number is this
pub record MayMake (task : CreateTask) (reads : ReadSet) (dir : ℕ) (name : List ℕ) (default : DefaultLayout)
    (number : ℕ) : Type 0 where
  pub in_dir : HasDefault reads dir default
  pub seen_name : IsKeyRead reads (keys.Dent dir name)
  pub seen_next : IsKeyRead reads (keys.Alloc task.server)
  pub free : (S : TypedRows) → Agrees S reads → get S.dents (dir, name) ≡ None
  pub next : (S : TypedRows) → Agrees S reads → next_at S.next task.server ≡ number
