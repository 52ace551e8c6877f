-- What a rename owes where its second way ends, by what is known of the rows.
use Rattle.std.proofs.Common.{◌≡◌, ℕ, List, [], refl, ap, ◌∙◌}
use Rattle.std.specs.Prelude.{Option, Some, None}
use Rattle.std.specs.FinMap.{get}
use Rattle.std.specs.Option.{option_map}
use Rattle.fs_base.specs.Config.{Settings}
use Rattle.fs_base.specs.declared.code.Code.{Code}
use Rattle.fs_base.specs.declared.code.Code.TheVariants as codes
use Rattle.fs_base.specs.declared.kind.Kind.{Kind}
use Rattle.fs_base.specs.declared.kind.Kind.TheVariants as kinds
use Rattle.fs_base.specs.declared.reply.Reply.TheVariants.{Refused}
use Rattle.inode_record.specs.declared.inode.InodeRow.{InodeRow}
use Rattle.key_schema.specs.declared.key.Key.{Key}
use Rattle.key_schema.specs.declared.key.Key.TheVariants as keys
use Rattle.row_records.specs.declared.rows.DentRow.{DentRow}
use Rattle.row_tree.specs.TreeOf.{tree_of, node_part}
use Rattle.row_tree.specs.TypedRows.{TypedRows}
use Rattle.row_tree.specs.WellFormed.{HasKind, IsWellFormed}
use Rattle.row_tree.proofs.Renaming.{rename_beside, rename_nowhere}
use Rattle.row_tree.proofs.Telling.{entry_is, node_is}
use Rattle.tree_model.specs.declared.node.Node.{Node}
use Rattle.tree_model.specs.declared.walk.Walked.{Walked}
use Rattle.tree_model.specs.declared.walk.Walked.TheVariants.{At, AtParent, NoName, Stopped}
use Rattle.tree_model.specs.Effects.{Effect, refuses}
use Rattle.tree_model.specs.Finding.{if_there}
use Rattle.tree_model.specs.Moving.{move_at, move_entry}
use Rattle.tree_model.specs.Tree.{Tree}
use Rattle.txn_task.specs.Transactions.{Transaction}
use Rattle.txn_task.specs.Wanted.{IsUnread}
use Rattle.txn_task.specs.declared.messages.Ask.TheVariants as asks
use Rattle.txn_task.specs.declared.messages.OpStep.{OpStep}
use Rattle.txn_task.specs.declared.messages.OpStep.TheVariants as steps
use Rattle.path_walk.specs.Areas.{Area}
use Rattle.path_walk.specs.Directories.{IsDirRead, IsEntryRead, IsNameRead, IsNoDirRead}
use Rattle.path_walk.specs.Footprint.{moved_at, placed_at}
use Rattle.path_walk.proofs.NameLaws as names
use Rattle.path_walk.proofs.StepLaws.{done_as, tells}
use Rattle.op_rename.specs.Ending.{IsMoveStep, IsPlaceStep, moves_from}
use Rattle.op_rename.specs.declared.place.Spot.{Spot}
use Rattle.op_rename.specs.declared.place.Spots.{Spots}

-- what an entry comes to is that of the node that it leads to
by_node : (C : Settings) (S : TypedRows) (good : IsWellFormed C S) (from : Spot) (stamp : ℕ) (e : DentRow) (at : get S.dents (from.dir, from.name) ≡ Some e) (walked : Walked)
    → moves_from from stamp (tree_of S) walked ≡ move_at (tree_of S) stamp (from.dir, from.name) e.inode (node_part ((good.entry from.dir from.name e at).target).0.part) walked
by_node C S good from stamp e at walked =
    let target = (good.entry from.dir from.name e at).target in
    ap (move_entry (tree_of S) stamp (from.dir, from.name) walked) (entry_is S from.dir from.name (Some e) at)
    ∙ ap (λ (o : Option Node). if_there o (λ node. move_at (tree_of S) stamp (from.dir, from.name) e.inode node.part walked)) (node_is S e.inode (Some target.0) target.1)

-- ---- where the way comes to no name

module _ (t : Transaction) (none : t.writes ≡ []) (from : Spot) (stamp : ℕ) (e : DentRow) (entry : IsEntryRead t.reads from.dir from.name e) where
  pub at_node : (id : ℕ) (kind : Kind) → IsPlaceStep from stamp e (At id kind) t t (steps.Reply (Refused codes.IsRoot))
  at_node id kind C =
      tells C (λ T. placed_at T e.kind e.inode (At id kind)) (λ T. moves_from from stamp T (At id kind)) t none (Refused codes.IsRoot) (λ S good agrees. tt)
      (λ S good agrees. by_node C S good from stamp e (entry.there S agrees) (At id kind))

  pub no_name : (dir : ℕ) → IsPlaceStep from stamp e (NoName dir) t t (steps.Reply (Refused codes.IsRoot))
  no_name dir C =
      tells C (λ T. placed_at T e.kind e.inode (NoName dir)) (λ T. moves_from from stamp T (NoName dir)) t none (Refused codes.IsRoot) (λ S good agrees. tt)
      (λ S good agrees. by_node C S good from stamp e (entry.there S agrees) (NoName dir))

  pub stopped : (code : Code) → IsPlaceStep from stamp e (Stopped code) t t (steps.Reply (Refused code))
  stopped code C =
      tells C (λ T. placed_at T e.kind e.inode (Stopped code)) (λ T. moves_from from stamp T (Stopped code)) t none (Refused code) (λ S good agrees. tt)
      (λ S good agrees. by_node C S good from stamp e (entry.there S agrees) (Stopped code))

-- ---- at a name in a directory

module _ (from : Spot) (stamp : ℕ) (e : DentRow) (dir : ℕ) (name : List ℕ) where
  abbrev outcome : Tree → Effect
  outcome T = moves_from from stamp T (AtParent dir name)

  abbrev more : Tree → Option ℕ → List Area
  more T = moved_at T e.kind e.inode dir

  no_dir : (C : Settings) (S : TypedRows) → IsWellFormed C S → get S.dents (from.dir, from.name) ≡ Some e → (HasKind S dir kinds.Dir → ⊥) → outcome (tree_of S) ≡ refuses codes.NotDir
  no_dir C S good at other = by (get S.inodes dir) refl
    where
      by : (o : Option InodeRow) → get S.inodes dir ≡ o → outcome (tree_of S) ≡ refuses codes.NotDir
      by None is = rename_nowhere C S good stamp (from.dir, from.name) (dir, name) e at is
      by (Some row) is = rename_beside C S good stamp (from.dir, from.name) (dir, name) e at row is (λ k. other (row, is, k))

  module _ (t : Transaction) (none : t.writes ≡ []) where
    pub asks_dir : (key : Key) → (key ≡ keys.Inode dir) × IsUnread t.reads (keys.Inode dir) → IsPlaceStep from stamp e (AtParent dir name) t t (steps.Ask (asks.Get key))
    asks_dir key unread C = names.asks_its_dir C more outcome dir name t none key unread

    pub nowhere : IsEntryRead t.reads from.dir from.name e → IsNoDirRead t.reads dir → IsPlaceStep from stamp e (AtParent dir name) t t (steps.Reply (Refused codes.NotDir))
    nowhere entry read C =
        names.without_dir C more outcome dir name t none read.0 (read.1 C) (Refused codes.NotDir)
        (λ S good agrees. no_dir C S good (entry.there S agrees) (read.1 C S good agrees))

    pub asks_name : IsDirRead t.reads dir → (key : Key) → (key ≡ keys.Dent dir name) × IsUnread t.reads (keys.Dent dir name) → IsPlaceStep from stamp e (AtParent dir name) t t (steps.Ask (asks.Get key))
    asks_name has key unread C = names.asks_its_name C more outcome dir name t none has key unread

-- what is left is the move
pub move_done : (spots : Spots) (stamp : ℕ) (e : DentRow) (taken : Option DentRow) (t : Transaction) → IsDirRead t.reads spots.to.dir → IsNameRead t.reads spots.to.dir spots.to.name taken → (after : Transaction) (step : OpStep)
    → IsMoveStep spots stamp e taken t after step → IsPlaceStep spots.from stamp e (AtParent spots.to.dir spots.to.name) t after step
move_done spots stamp e taken t has read after step done C =
    let outcome = λ (T : Tree). moves_from spots.from stamp T (AtParent spots.to.dir spots.to.name) in
    done_as C (λ T. placed_at T e.kind e.inode (AtParent spots.to.dir spots.to.name)) (λ T. moved_at T e.kind e.inode spots.to.dir (option_map (λ (e : DentRow). e.inode) taken)) outcome outcome t after step
    (names.behind_its_name C (λ T. moved_at T e.kind e.inode spots.to.dir) outcome spots.to.dir spots.to.name t.reads has taken read) (λ S good agrees. refl) (done C)
