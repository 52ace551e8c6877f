-- What is put for a further entry, or one less; the last put stands first.
use Rattle.std.specs.Prelude.{◌≡◌, ℕ, ◌-◌, nat_le, List, [], ◌∷◌, Option, Some, None, if◌then◌else◌}
use Rattle.fs_base.specs.declared.kind.Kind.{Kind}
use Rattle.fs_base.specs.declared.kind.Kind.TheVariants as kinds
use Rattle.inode_record.specs.declared.inode.InodeRow.{InodeRow}
use Rattle.key_schema.specs.declared.key.Key.{Key}
use Rattle.key_schema.specs.declared.key.Key.TheVariants as keys
use Rattle.row_records.specs.declared.rows.DentRow.{DentRow}
use Rattle.row_records.specs.declared.rows.GcRow.TheVariants.{Waiting}
use Rattle.row_tree.specs.Steps.{recounted}
use Rattle.row_tree.specs.TypedRows.{kind_of}
use Rattle.txn_task.specs.Transactions.{Transaction}
use Rattle.path_walk.specs.Puts.{put_writes}
use Rattle.row_tree.specs.Values.{Value, DentValue, GcValue, InodeValue}

-- these puts and no others were written
abbrev pub HasPut : List (Key × Option Value) → Transaction → Transaction → Type 0
HasPut puts old new = new ≡ record old { writes = put_writes puts }

-- the row of the node, and the entry
abbrev pub join_puts : ℕ → List ℕ → ℕ → InodeRow → List (Key × Option Value)
join_puts dir name id row =
    (keys.Dent dir name, Some (DentValue (record { inode = id; kind = kind_of row.part })))
    ∷ (keys.Inode id, Some (InodeValue row))
    ∷ []

-- the entry taken away, and the row of the node
abbrev pub left_puts : ℕ → List ℕ → ℕ → InodeRow → List (Key × Option Value)
left_puts dir name id row = (keys.Inode id, Some (InodeValue row)) ∷ (keys.Dent dir name, None) ∷ []

-- the same, and the file waits
abbrev pub waiting_puts : ℕ → List ℕ → ℕ → InodeRow → List (Key × Option Value)
waiting_puts dir name id row = (keys.Gc id, Some (GcValue Waiting)) ∷ left_puts dir name id row

-- the entry and the node taken away
abbrev pub gone_puts : ℕ → List ℕ → ℕ → List (Key × Option Value)
gone_puts dir name id = (keys.Inode id, None) ∷ (keys.Dent dir name, None) ∷ []

-- the last entry of a node: a file waits, and any other node is gone
abbrev pub last_puts : ℕ → List ℕ → ℕ → Kind → InodeRow → List (Key × Option Value)
last_puts dir name id kinds.File row = waiting_puts dir name id row
last_puts dir name id kinds.Dir row = gone_puts dir name id
last_puts dir name id kinds.Link row = gone_puts dir name id

-- an entry less of a node that is no directory, by the entries that it counts
abbrev pub unlinked_puts : ℕ → ℕ → List ℕ → DentRow → InodeRow → List (Key × Option Value)
unlinked_puts stamp dir name e row =
    if nat_le 2 row.links
    then left_puts dir name e.inode (recounted stamp (row.links - 1) row)
    else last_puts dir name e.inode e.kind (recounted stamp 0 row)
