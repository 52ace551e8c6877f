-- What the rows tell of an inode, and of the entries of a directory.
use Rattle.std.specs.Prelude.{ℕ, List, length}
use Rattle.fs_base.specs.declared.reply.Attributes.{Attributes}
use Rattle.fs_base.specs.declared.reply.DirEntry.{DirEntry}
use Rattle.inode_record.specs.declared.inode.InodePart.{InodePart}
use Rattle.inode_record.specs.declared.inode.InodePart.TheVariants as parts
use Rattle.inode_record.specs.declared.inode.InodeRow.{InodeRow}
use Rattle.row_records.specs.declared.rows.DentRow.{DentRow}
use Rattle.row_tree.specs.TypedRows.{kind_of}

-- a name with its row, as it is listed
abbrev pub listed_entry : List ℕ × DentRow → DirEntry
listed_entry e = record { name = e.0; inode = e.1.inode; kind = e.1.kind }

abbrev pub length_at : InodePart → ℕ
length_at (parts.Dir parent chunk stripe) = 0
length_at (parts.File length truncs layout hint) = length
length_at (parts.Link target) = length target

-- the count of links is the row's own
abbrev pub attributes_at : ℕ → InodeRow → Attributes
attributes_at id row =
    record {
      inode = id;
      kind = kind_of row.part;
      mode = row.mode;
      owner = row.owner;
      group = row.group;
      links = row.links;
      atime = row.atime;
      mtime = row.mtime;
      ctime = row.ctime;
      length = length_at row.part;
    }
