-- What is told of a node, and what setattr makes of it.
use Rattle.std.specs.Prelude.{ℕ, ◌==◌, nat_lt, if◌then◌else◌, length, unwrap_or}
use Rattle.fs_base.specs.declared.call.Changes.{Changes}
use Rattle.fs_base.specs.declared.kind.Kind.{Kind}
use Rattle.fs_base.specs.declared.kind.Kind.TheVariants as kinds
use Rattle.fs_base.specs.declared.reply.Attributes.{Attributes}
use Rattle.tree_model.specs.declared.node.Node.{Node}
use Rattle.tree_model.specs.declared.node.NodePart.{NodePart}
use Rattle.tree_model.specs.declared.node.NodePart.TheVariants.{Dir, File, Link}
use Rattle.tree_model.specs.Maps.{count_where}
use Rattle.tree_model.specs.Tree.{Tree}

abbrev pub kind_of_part : NodePart → Kind
kind_of_part (Dir layout) = kinds.Dir
kind_of_part (File length truncs layout hint) = kinds.File
kind_of_part (Link target) = kinds.Link

-- as many as 32 bits hold; rows count at most 65,535, so in a tree of well-formed rows the count is exact
abbrev pub saturated : ℕ → ℕ
saturated n = if nat_lt n 4294967296 then n else 4294967295

-- how many entries lead to an inode
abbrev pub count_to : Tree → ℕ → ℕ
count_to T id = count_where (λ (x : ℕ). x == id) T.entries

-- 1 for a directory, else the entries that lead to it
abbrev pub links_of : Tree → ℕ → NodePart → ℕ
links_of T id (Dir layout) = 1
links_of T id (File length truncs layout hint) = saturated (count_to T id)
links_of T id (Link target) = saturated (count_to T id)

abbrev pub length_of : NodePart → ℕ
length_of (Dir layout) = 0
length_of (File length truncs layout hint) = length
length_of (Link target) = length target

abbrev pub attributes_of : Tree → ℕ → Node → Attributes
attributes_of T id node =
    record {
      inode = id;
      kind = kind_of_part node.part;
      mode = node.mode;
      owner = node.owner;
      group = node.group;
      links = links_of T id node.part;
      atime = node.atime;
      mtime = node.mtime;
      ctime = node.ctime;
      length = length_of node.part;
    }

-- what is given is set, and the change time is the stamp
abbrev pub changed : Changes → ℕ → Node → Node
changed changes stamp node =
    record {
      mode = unwrap_or changes.mode node.mode;
      owner = unwrap_or changes.owner node.owner;
      group = unwrap_or changes.group node.group;
      atime = unwrap_or changes.atime node.atime;
      mtime = unwrap_or changes.mtime node.mtime;
      ctime = stamp;
      part = node.part;
    }

-- the stamp is the change time, and nothing else changes
abbrev pub touched : ℕ → Node → Node
touched stamp node = record node { ctime = stamp }
