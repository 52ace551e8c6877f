-- What may stand at a key: the values of rows, by the form of the key.
use Rattle.std.specs.Prelude.{ℕ, IsTrue, List, Option, Some, None}
use Rattle.inode_record.specs.Inode.{spelled_inode, is_inode}
use Rattle.inode_record.specs.declared.inode.InodeRow.{InodeRow}
use Rattle.row_records.specs.declared.rows.DentRow.{DentRow}
use Rattle.row_records.specs.declared.rows.GcRow.{GcRow}
use Rattle.row_records.specs.declared.rows.KeptRow.{KeptRow}
use Rattle.row_records.specs.Rows.{spelled_dent, is_dent, spelled_session, is_session, spelled_kept, is_kept, spelled_gc, is_gc, spelled_alloc, is_alloc}

pub data Value : Type 0 where
  InodeValue : (row : InodeRow) → Value
  DentValue : (row : DentRow) → Value
  -- the stamp of the open
  SessionValue : (stamp : ℕ) → Value
  KeptValue : (row : KeptRow) → Value
  GcValue : (row : GcRow) → Value
  -- the server's next number
  AllocValue : (next : ℕ) → Value

abbrev pub as_inode : Value → Option InodeRow
as_inode (InodeValue row) = Some row
as_inode _ = None

abbrev pub as_dent : Value → Option DentRow
as_dent (DentValue row) = Some row
as_dent _ = None

abbrev pub as_session : Value → Option ℕ
as_session (SessionValue stamp) = Some stamp
as_session _ = None

abbrev pub as_kept : Value → Option KeptRow
as_kept (KeptValue row) = Some row
as_kept _ = None

abbrev pub as_gc : Value → Option GcRow
as_gc (GcValue row) = Some row
as_gc _ = None

abbrev pub as_alloc : Value → Option ℕ
as_alloc (AllocValue next) = Some next
as_alloc _ = None

-- a value's bytes
unfoldable pub spelled_value : Value → List ℕ
spelled_value (InodeValue row) = spelled_inode row
spelled_value (DentValue row) = spelled_dent row
spelled_value (SessionValue stamp) = spelled_session (record { stamp = stamp })
spelled_value (KeptValue row) = spelled_kept row
spelled_value (GcValue row) = spelled_gc row
spelled_value (AllocValue next) = spelled_alloc (record { next = next })

-- its numbers are in their ranges
abbrev pub IsValue : Value → Type 0
IsValue (InodeValue row) = IsTrue (is_inode row)
IsValue (DentValue row) = IsTrue (is_dent row)
IsValue (SessionValue stamp) = IsTrue (is_session (record { stamp = stamp }))
IsValue (KeptValue row) = IsTrue (is_kept row)
IsValue (GcValue row) = IsTrue (is_gc row)
IsValue (AllocValue next) = IsTrue (is_alloc (record { next = next }))
