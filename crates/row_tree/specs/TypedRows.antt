-- The rows as typed values: a finite map for each form of key.
use Rattle.std.specs.Prelude.{ℕ, ◌==◌, Bool, cond, List, Option, Some, None}
use Rattle.std.specs.Option.{option_map, option_and_then}
use Rattle.std.specs.Ordering.{nat_cmp}
use Rattle.std.specs.List.{filter_map}
use Rattle.std.specs.FinMap.{FinMap, empty, get, entries}
use Rattle.fs_base.specs.declared.kind.Kind.{Kind}
use Rattle.fs_base.specs.declared.kind.Kind.TheVariants as kinds
use Rattle.inode_record.specs.declared.inode.InodePart.{InodePart}
use Rattle.inode_record.specs.declared.inode.InodePart.TheVariants as parts
use Rattle.inode_record.specs.declared.inode.InodeRow.{InodeRow}
use Rattle.key_schema.specs.declared.key.Key.{Key}
use Rattle.key_schema.specs.declared.key.Key.TheVariants as keys
use Rattle.row_records.specs.declared.rows.DentRow.{DentRow}
use Rattle.row_records.specs.declared.rows.GcRow.{GcRow}
use Rattle.row_records.specs.declared.rows.KeptRow.{KeptRow}
use Rattle.tree_model.specs.Maps.{set, count_where, dent_cmp, session_cmp}
use Rattle.row_tree.specs.Values.{Value, InodeValue, DentValue, SessionValue, KeptValue, GcValue, AllocValue, as_inode, as_dent, as_session, as_kept, as_gc, as_alloc}

-- In the order of numbers, while keys have ids least significant byte first: one directory's entries and one
-- inode's sessions have the same order in both, and files in deletion are ordered by number here.
pub record TypedRows : Type 0 where
  -- by id
  pub inodes : FinMap nat_cmp InodeRow
  -- by directory and name
  pub dents : FinMap dent_cmp DentRow
  -- by inode, client and number, the stamp of the open
  pub sessions : FinMap session_cmp ℕ
  -- by client
  pub kept : FinMap nat_cmp KeptRow
  -- by id
  pub doomed : FinMap nat_cmp GcRow
  -- by server, its next number
  pub next : FinMap nat_cmp ℕ

abbrev pub no_rows : TypedRows
no_rows =
    record { inodes = empty; dents = empty; sessions = empty; kept = empty; doomed = empty; next = empty }

-- what stands at a key
abbrev pub value_at : TypedRows → Key → Option Value
value_at S (keys.Alloc server) = option_map AllocValue (get S.next server)
value_at S (keys.Dent dir name) = option_map DentValue (get S.dents (dir, name))
value_at S (keys.Gc id) = option_map GcValue (get S.doomed id)
value_at S (keys.Idem client) = option_map KeptValue (get S.kept client.0)
value_at S (keys.Inode id) = option_map InodeValue (get S.inodes id)
value_at S (keys.Session inode client number) =
    option_map SessionValue (get S.sessions (inode, (client.0, number)))

-- the rows with a value put at a key, or taken away
abbrev pub write : TypedRows → Key → Option Value → TypedRows
write S (keys.Alloc server) v = record S { next = set S.next server (option_and_then as_alloc v) }
write S (keys.Dent dir name) v = record S { dents = set S.dents (dir, name) (option_and_then as_dent v) }
write S (keys.Gc id) v = record S { doomed = set S.doomed id (option_and_then as_gc v) }
write S (keys.Idem client) v = record S { kept = set S.kept client.0 (option_and_then as_kept v) }
write S (keys.Inode id) v = record S { inodes = set S.inodes id (option_and_then as_inode v) }
write S (keys.Session inode client number) v =
    record S { sessions = set S.sessions (inode, (client.0, number)) (option_and_then as_session v) }

-- the value, where it is of the key's form
abbrev pub of_form : Key → Value → Option Value
of_form (keys.Alloc server) v = option_map AllocValue (as_alloc v)
of_form (keys.Dent dir name) v = option_map DentValue (as_dent v)
of_form (keys.Gc id) v = option_map GcValue (as_gc v)
of_form (keys.Idem client) v = option_map KeptValue (as_kept v)
of_form (keys.Inode id) v = option_map InodeValue (as_inode v)
of_form (keys.Session inode client number) v = option_map SessionValue (as_session v)

-- a directory's rows, in order of names
abbrev pub named_in_dir : ℕ → (ℕ × List ℕ) × DentRow → Option (List ℕ × DentRow)
named_in_dir dir e = cond (e.0.0 == dir) (Some (e.0.1, e.1)) None

abbrev pub dir_rows : TypedRows → ℕ → List (List ℕ × DentRow)
dir_rows S dir = filter_map (named_in_dir dir) (entries S.dents)

abbrev pub kind_of : InodePart → Kind
kind_of (parts.Dir parent chunk stripe) = kinds.Dir
kind_of (parts.File length truncs layout hint) = kinds.File
kind_of (parts.Link target) = kinds.Link

abbrev pub parent_of : InodePart → Option ℕ
parent_of (parts.Dir parent chunk stripe) = Some parent
parent_of (parts.File length truncs layout hint) = None
parent_of (parts.Link target) = None

-- the parent that a directory's row names
abbrev pub parent_at : TypedRows → ℕ → Option ℕ
parent_at S id = option_and_then (λ row. parent_of row.part) (get S.inodes id)

-- whether an entry leads to the inode, and how many do
abbrev pub is_to : ℕ → DentRow → Bool
is_to id e = e.inode == id

abbrev pub entries_to : TypedRows → ℕ → ℕ
entries_to S id = count_where (is_to id) S.dents
