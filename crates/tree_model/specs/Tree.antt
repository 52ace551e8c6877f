-- The plain file tree: no keys, no parents, no link counts.
use Rattle.std.specs.Prelude.{ℕ}
use Rattle.std.specs.Option.{unwrap_or}
use Rattle.std.specs.Ordering.{nat_cmp}
use Rattle.std.specs.FinMap.{FinMap, empty, get, insert}
use Rattle.fs_base.specs.declared.config.Config.{Config}
use Rattle.tree_model.specs.declared.kept.Doom.{Doom}
use Rattle.tree_model.specs.declared.kept.KeptReply.{KeptReply}
use Rattle.tree_model.specs.declared.node.Node.{Node}
use Rattle.tree_model.specs.declared.node.NodePart.{NodePart}
use Rattle.tree_model.specs.declared.node.NodePart.TheVariants.{Dir}
use Rattle.tree_model.specs.declared.tree.TreeParts.{TreeParts}
use Rattle.tree_model.specs.Maps.{dent_cmp, session_cmp}

-- It has sessions and files in deletion before any call makes one: stored rows are compared with a tree, and
-- that comparison is made once.
pub record Tree : Type 0 where
  -- by id
  pub nodes : FinMap nat_cmp Node
  -- by directory and name, the id that the entry leads to
  pub entries : FinMap dent_cmp ℕ
  -- the write sessions: inode, client, number
  pub writers : FinMap session_cmp (Unit {0})
  -- by client, its last update that was answered Ok
  pub kept : FinMap nat_cmp KeptReply
  -- by id, the files that are being deleted
  pub doomed : FinMap nat_cmp Doom
  -- by server, its next number, where it has given one
  pub next : FinMap nat_cmp ℕ

-- a tree and the configuration that it is served by
pub record Served : Type 0 where
  pub config : Config
  pub tree : Tree

-- the tree that these maps are
abbrev pub of_parts : TreeParts → Tree
of_parts p =
    record {
      nodes = p.nodes;
      entries = p.entries;
      writers = p.writers;
      kept = p.kept;
      doomed = p.doomed;
      next = p.next;
    }

-- a server's next number, 1 at first
abbrev pub next_at : FinMap nat_cmp ℕ → ℕ → ℕ
next_at next server = unwrap_or (get next server) 1

-- a new node: owner and group 0, with the stamp as each of its times
abbrev pub node_with : ℕ → ℕ → NodePart → Node
node_with mode stamp part =
    record { mode = mode; owner = 0; group = 0; atime = stamp; mtime = stamp; ctime = stamp; part = part }

-- mode 755, and the configuration's default layout
abbrev pub root_of : Config → Node
root_of C = node_with 493 0 (Dir (record { chunk = C.chunk; stripe = C.stripe }))

abbrev pub new_tree : Config → Tree
new_tree C =
    record {
      nodes = insert empty 0 (root_of C);
      entries = empty;
      writers = empty;
      kept = empty;
      doomed = empty;
      next = empty;
    }
