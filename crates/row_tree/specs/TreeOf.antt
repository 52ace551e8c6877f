-- The tree of typed rows: at the same keys, without parents, link counts and kinds of entries.
use Rattle.std.specs.Prelude.{ℕ}
use Rattle.inode_record.specs.declared.inode.InodePart.{InodePart}
use Rattle.inode_record.specs.declared.inode.InodePart.TheVariants as parts
use Rattle.inode_record.specs.declared.inode.InodeRow.{InodeRow}
use Rattle.row_records.specs.declared.rows.DentRow.{DentRow}
use Rattle.row_records.specs.declared.rows.GcRow.{GcRow}
use Rattle.row_records.specs.declared.rows.GcRow.TheVariants as rows
use Rattle.row_records.specs.declared.rows.KeptRow.{KeptRow}
use Rattle.tree_model.specs.declared.kept.Doom.{Doom}
use Rattle.tree_model.specs.declared.kept.Doom.TheVariants as dooms
use Rattle.tree_model.specs.declared.kept.KeptReply.{KeptReply}
use Rattle.tree_model.specs.declared.node.Node.{Node}
use Rattle.tree_model.specs.declared.node.NodePart.{NodePart}
use Rattle.tree_model.specs.declared.node.NodePart.TheVariants as nodes
use Rattle.tree_model.specs.Maps.{map_values}
use Rattle.tree_model.specs.Tree.{Tree}
use Rattle.row_tree.specs.TypedRows.{TypedRows}

abbrev pub node_part : InodePart → NodePart
node_part (parts.Dir parent chunk stripe) = nodes.Dir (record { chunk = chunk; stripe = stripe })
node_part (parts.File length truncs layout hint) = nodes.File length truncs layout hint
node_part (parts.Link target) = nodes.Link target

abbrev pub node_of : InodeRow → Node
node_of row =
    record {
      mode = row.mode;
      owner = row.owner;
      group = row.group;
      atime = row.atime;
      mtime = row.mtime;
      ctime = row.ctime;
      part = node_part row.part;
    }

abbrev pub kept_of : KeptRow → KeptReply
kept_of row = record { number = row.number; reply = row.reply }

abbrev pub doom_of : GcRow → Doom
doom_of rows.Waiting = dooms.Waiting
doom_of (rows.Purged layout hint) = dooms.Purged layout hint

abbrev pub tree_of : TypedRows → Tree
tree_of S = record {
  nodes = map_values node_of S.inodes;
  entries = map_values (λ (e : DentRow). e.inode) S.dents;
  writers = map_values (λ (stamp : ℕ). tt {0}) S.sessions;
  kept = map_values kept_of S.kept;
  doomed = map_values doom_of S.doomed;
  next = S.next;
}
