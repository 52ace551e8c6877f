-- The rows of a new node, and where it may be made.
use Rattle.std.specs.Prelude.{◌≡◌, ℕ, ◌<◌, ◌≤◌, List, IsTrue, Some, None}
use Rattle.std.specs.FinMap.{get}
use Rattle.byte_fields.specs.Fields.{path_text}
use Rattle.fs_base.specs.Config.{Settings, admits, layout_at}
use Rattle.fs_base.specs.declared.layout.DefaultLayout.{DefaultLayout}
use Rattle.fs_base.specs.declared.limits.TheConstants.{CHAINS, INODE_IDS, MODES, TIMES}
use Rattle.inode_record.specs.declared.inode.InodePart.{InodePart}
use Rattle.inode_record.specs.declared.inode.InodePart.TheVariants as parts
use Rattle.inode_record.specs.declared.inode.InodeRow.{InodeRow}
use Rattle.row_records.specs.declared.rows.DentRow.{DentRow}
use Rattle.tree_model.specs.declared.new_node.NewNode.{NewNode}
use Rattle.tree_model.specs.declared.new_node.NewPart.{NewPart}
use Rattle.tree_model.specs.declared.new_node.NewPart.TheVariants as new
use Rattle.tree_model.specs.Creating.{first_hint}
use Rattle.tree_model.specs.Tree.{next_at}
use Rattle.row_tree.specs.TypedRows.{TypedRows, kind_of}

-- what the row of a new node has by its kind, by a layout: a directory's default, or a file's
abbrev pub row_part : Settings → NewPart → ℕ → ℕ → DefaultLayout → InodePart
row_part C new.Dir id dir layout = parts.Dir dir layout.chunk layout.stripe
row_part C new.File id dir layout = parts.File 0 0 (layout_at C id layout) (first_hint layout.stripe)
row_part C (new.Link target) id dir layout = parts.Link target

-- one entry leads to it; owner and group are 0, and each time is the stamp
abbrev pub new_row : Settings → NewNode → ℕ → ℕ → ℕ → DefaultLayout → InodeRow
new_row C node stamp id dir layout = record {
  mode = node.mode;
  owner = 0;
  group = 0;
  links = 1;
  atime = stamp;
  mtime = stamp;
  ctime = stamp;
  part = row_part C node.part id dir layout;
}

-- the entry that leads to it
abbrev pub new_entry : ℕ → InodeRow → DentRow
new_entry id row = record { inode = id; kind = kind_of row.part }

-- a link's target may stand in its row
abbrev pub IsPart : NewPart → Type 0
IsPart new.Dir = Unit {0}
IsPart new.File = Unit {0}
IsPart (new.Link target) = IsTrue (path_text.fits target)

-- what a new row is made of, each in its range
pub record IsNewRow (C : Settings) (node : NewNode) (stamp id dir : ℕ) (layout : DefaultLayout) : Type 0 where
  pub mode_small : node.mode < MODES
  pub stamp_small : stamp < TIMES
  pub part_is : IsPart node.part
  pub id_small : id < INODE_IDS
  pub dir_small : dir < INODE_IDS
  pub admitted : IsTrue (admits C layout)
  pub few_chains : C.chains ≤ CHAINS

-- a free name of a directory with this default, where the server's next number is this
pub record IsRoom (S : TypedRows) (server dir : ℕ) (name : List ℕ) (default : DefaultLayout)
    (number : ℕ) : Type 0 where
  pub parent : ℕ
  pub row : InodeRow
  pub there : get S.inodes dir ≡ Some row
  pub is_dir : row.part ≡ parts.Dir parent default.chunk default.stripe
  pub free : get S.dents (dir, name) ≡ None
  pub next : next_at S.next server ≡ number
