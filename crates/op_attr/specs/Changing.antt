-- The row that setattr makes of an inode's, and when it is put.
use Rattle.std.specs.Prelude.{◌≡◌, ◌≢◌, ◌⊎◌, ℕ, Some, unwrap_or}
use Rattle.fs_base.specs.declared.call.Changes.{Changes}
use Rattle.inode_record.specs.Inode.{spelled_inode}
use Rattle.inode_record.specs.declared.inode.InodeRow.{InodeRow}
use Rattle.key_schema.specs.Keys.{spelled_key}
use Rattle.key_schema.specs.declared.key.Key.TheVariants as keys
use Rattle.txn_task.specs.Transactions.{Transaction}
use Rattle.txn_task.specs.Writes.{set_write}

-- what is given is set, and the change time is the stamp
abbrev pub changed_row : Changes → ℕ → InodeRow → InodeRow
changed_row given stamp row = record row {
  mode = unwrap_or given.mode row.mode;
  owner = unwrap_or given.owner row.owner;
  group = unwrap_or given.group row.group;
  atime = unwrap_or given.atime row.atime;
  mtime = unwrap_or given.mtime row.mtime;
  ctime = stamp;
}

abbrev pub with_inode : Transaction → ℕ → InodeRow → Transaction
with_inode t id row =
    record t { writes = set_write (spelled_key (keys.Inode id)) (Some (spelled_inode row)) t.writes }

-- the new row is put where it differs from the one that stands there
abbrev pub PutsChanged : ℕ → InodeRow → InodeRow → Transaction → Transaction → Type 0
PutsChanged id row new old after =
    ((new ≡ row) × (after ≡ old)) ⊎ ((new ≢ row) × (after ≡ with_inode old id new))
