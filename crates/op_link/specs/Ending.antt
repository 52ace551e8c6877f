-- What a step owes where a way has ended, and what is known there.
use Rattle.std.specs.Prelude.{◌≡◌, ◌≢◌, ℕ, List, None, Some}
use Rattle.std.specs.FinMap.{get}
use Rattle.conflict_sets.specs.declared.sets.ReadSet.{ReadSet}
use Rattle.fs_base.specs.Config.{Settings}
use Rattle.fs_base.specs.declared.call.Place.{Place}
use Rattle.fs_base.specs.declared.kind.Kind.{Kind}
use Rattle.fs_base.specs.declared.kind.Kind.TheVariants as kinds
use Rattle.inode_record.specs.declared.inode.InodeRow.{InodeRow}
use Rattle.key_schema.specs.declared.key.Key.TheVariants as keys
use Rattle.row_tree.specs.TreeOf.{tree_of}
use Rattle.row_tree.specs.TypedRows.{TypedRows}
use Rattle.row_tree.specs.WellFormed.{IsWellFormed}
use Rattle.tree_model.specs.declared.node.Node.{Node}
use Rattle.tree_model.specs.declared.node.NodePart.{NodePart}
use Rattle.tree_model.specs.declared.node.NodePart.TheVariants.{Dir, File, Link}
use Rattle.tree_model.specs.declared.walk.Walked.{Walked}
use Rattle.tree_model.specs.declared.walk.Walked.TheVariants.{At}
use Rattle.tree_model.specs.Linking.{link_to}
use Rattle.tree_model.specs.Tree.{Tree}
use Rattle.txn_task.specs.Agreeing.{Agrees}
use Rattle.txn_task.specs.Transactions.{Transaction}
use Rattle.txn_task.specs.Wanted.{IsKeyRead}
use Rattle.txn_task.specs.declared.messages.OpStep.{OpStep}
use Rattle.path_walk.specs.Directories.{IsDirRead, IsRowRead}
use Rattle.path_walk.specs.Footprint.{free_name_at, way_to}
use Rattle.path_walk.specs.Owed.{HasDone}
use Rattle.path_walk.specs.Stages.{does, looks}
use Rattle.op_link.specs.Link.{link_does_at, link_reads_at}
use Rattle.op_link.specs.declared.task.LinkCall.{LinkCall}

-- under whatever configuration it reads what the call reads there, and does what the call does there
abbrev pub IsLinkEndStep : LinkCall → ℕ → Walked → Transaction → Transaction → OpStep → Type 0
IsLinkEndStep call stamp walked before after s =
    (C : Settings)
    → HasDone C (λ T. link_reads_at call T walked) (λ T. link_does_at call stamp T walked) before after s

-- ---- link's second way

-- a node that is to get a further entry, where the way to the entry's place begins
abbrev pub IsLinkWayStep : Place → ℕ → ℕ → Transaction → Transaction → OpStep → Type 0
IsLinkWayStep to id stamp before after s =
    (C : Settings)
    → HasDone C (looks (free_name_at (keys.Inode id)) (way_to to))
    (does (λ T. link_to T stamp id) (way_to to))
    before after s

-- and where it ends
abbrev pub IsJoinStep : ℕ → ℕ → Walked → Transaction → Transaction → OpStep → Type 0
IsJoinStep id stamp walked before after s =
    (C : Settings)
    → HasDone C (λ T. free_name_at (keys.Inode id) T walked) (λ T. link_to T stamp id walked) before after s

-- ---- what a way has come to

abbrev pub IsNoDir : NodePart → Type 0
IsNoDir (Dir layout) = ⊥
IsNoDir (File length truncs layout hint) = Unit {0}
IsNoDir (Link target) = Unit {0}

-- an entry leads to a node that is no directory
pub record IsLeaf (T : Tree) (id : ℕ) : Type 0 where
  pub dir : ℕ
  pub name : List ℕ
  pub node : Node
  pub entry : get T.entries (dir, name) ≡ Some id
  pub there : get T.nodes id ≡ Some node
  pub no_dir : IsNoDir node.part

-- in all well-formed rows that agree with the reads
abbrev pub IsSource : ReadSet → ℕ → Type 0
IsSource reads id = (C : Settings) (S : TypedRows) → IsWellFormed C S → Agrees S reads → IsLeaf (tree_of S) id

-- where a way has come to a node that is no directory, an entry leads there
abbrev pub HasSource : ReadSet → Walked → Type 0
HasSource reads walked = (id : ℕ) (kind : Kind) → walked ≡ At id kind → kind ≢ kinds.Dir → IsSource reads id

-- the directory is there, the name is free in it, and the node has this row
pub record MayJoin (reads : ReadSet) (dir : ℕ) (name : List ℕ) (id : ℕ) (row : InodeRow) : Type 0 where
  pub in_dir : IsDirRead reads dir
  pub seen_name : IsKeyRead reads (keys.Dent dir name)
  pub free : (S : TypedRows) → Agrees S reads → get S.dents (dir, name) ≡ None
  pub node : IsRowRead reads id row
