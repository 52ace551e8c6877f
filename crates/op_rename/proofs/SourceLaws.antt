-- What a rename owes where its first way ends, by what is known of the rows.
use Rattle.std.proofs.Common.{◌≡◌, ℕ, List, [], refl, ap, ◌∙◌}
use Rattle.std.specs.Prelude.{Option, Some, None}
use Rattle.std.specs.FinMap.{get}
use Rattle.conflict_sets.specs.declared.sets.ReadSet.{ReadSet}
use Rattle.fs_base.specs.Config.{Settings}
use Rattle.fs_base.specs.declared.call.Place.{Place}
use Rattle.fs_base.specs.declared.code.Code.{Code}
use Rattle.fs_base.specs.declared.code.Code.TheVariants as codes
use Rattle.fs_base.specs.declared.kind.Kind.{Kind}
use Rattle.fs_base.specs.declared.reply.Reply.TheVariants.{Refused}
use Rattle.key_schema.specs.declared.key.Key.{Key}
use Rattle.key_schema.specs.declared.key.Key.TheVariants as keys
use Rattle.row_records.specs.declared.rows.DentRow.{DentRow}
use Rattle.row_tree.specs.TreeOf.{tree_of}
use Rattle.row_tree.specs.TypedRows.{TypedRows}
use Rattle.row_tree.specs.WellFormed.{IsWellFormed}
use Rattle.row_tree.proofs.Telling.{entry_is, node_is}
use Rattle.row_tree.proofs.Told.{kind_told}
use Rattle.tree_model.specs.declared.node.Node.{Node}
use Rattle.tree_model.specs.declared.walk.WalkEnd.TheVariants.{Parent}
use Rattle.tree_model.specs.declared.walk.Walked.TheVariants.{At, AtParent, NoName, Stopped}
use Rattle.tree_model.specs.Attributes.{kind_of_part}
use Rattle.tree_model.specs.Effects.{Effect}
use Rattle.tree_model.specs.Moving.{move_entry}
use Rattle.tree_model.specs.Tree.{Tree}
use Rattle.txn_task.specs.Agreeing.{Agrees}
use Rattle.txn_task.specs.Transactions.{Transaction}
use Rattle.txn_task.specs.Wanted.{IsKeyRead, IsUnread}
use Rattle.txn_task.specs.declared.messages.Ask.TheVariants as asks
use Rattle.txn_task.specs.declared.messages.OpStep.{OpStep}
use Rattle.txn_task.specs.declared.messages.OpStep.TheVariants as steps
use Rattle.path_walk.specs.Areas.{Area}
use Rattle.path_walk.specs.Directories.{IsEntryRead}
use Rattle.path_walk.specs.Footprint.{along, carried, if_node, placed_at, way_to}
use Rattle.path_walk.specs.Owed.{KeepsAreas}
use Rattle.path_walk.specs.Stages.{does, looks}
use Rattle.path_walk.proofs.NameLaws as names
use Rattle.path_walk.proofs.StepLaws.{areas_on, done_as, tells}
use Rattle.op_rename.specs.Ending.{IsRenameEndStep, IsRenameWayStep, moves_from}
use Rattle.op_rename.specs.Rename.{rename_does_at, rename_reads_at}
use Rattle.op_rename.specs.declared.place.Spot.{Spot}

-- ---- where the way comes to no name

module _ (t : Transaction) (none : t.writes ≡ []) (to : Place) (stamp : ℕ) where
  pub at_node : (id : ℕ) (kind : Kind) → IsRenameEndStep to stamp (At id kind) t t (steps.Reply (Refused codes.IsRoot))
  at_node id kind C = tells C (λ T. rename_reads_at to T (At id kind)) (λ T. rename_does_at to stamp T (At id kind)) t none (Refused codes.IsRoot) (λ S good agrees. tt) (λ S good agrees. refl)

  pub no_name : (dir : ℕ) → IsRenameEndStep to stamp (NoName dir) t t (steps.Reply (Refused codes.IsRoot))
  no_name dir C = tells C (λ T. rename_reads_at to T (NoName dir)) (λ T. rename_does_at to stamp T (NoName dir)) t none (Refused codes.IsRoot) (λ S good agrees. tt) (λ S good agrees. refl)

  pub stopped : (code : Code) → IsRenameEndStep to stamp (Stopped code) t t (steps.Reply (Refused code))
  stopped code C = tells C (λ T. rename_reads_at to T (Stopped code)) (λ T. rename_does_at to stamp T (Stopped code)) t none (Refused code) (λ S good agrees. tt) (λ S good agrees. refl)

-- ---- at a name

module _ (to : Place) (stamp dir : ℕ) (name : List ℕ) where
  abbrev outcome : Tree → Effect
  outcome T = rename_does_at to stamp T (AtParent dir name)

  abbrev areas : Tree → List Area
  areas T = rename_reads_at to T (AtParent dir name)

  module _ (t : Transaction) (none : t.writes ≡ []) where
    pub asks_entry : (key : Key) → (key ≡ keys.Dent dir name) × IsUnread t.reads (keys.Dent dir name) → IsRenameEndStep to stamp (AtParent dir name) t t (steps.Ask (asks.Get key))
    asks_entry key unread C = names.asks_entry C outcome dir name (λ T. carried T to) t none key unread

    pub no_entry : IsKeyRead t.reads (keys.Dent dir name) → ((S : TypedRows) → Agrees S t.reads → get S.dents (dir, name) ≡ None) → IsRenameEndStep to stamp (AtParent dir name) t t (steps.Reply (Refused codes.NotFound))
    no_entry read free C =
        names.no_entry C outcome dir name (λ T. carried T to) t none read free (Refused codes.NotFound)
        (λ S good agrees. ap (move_entry (tree_of S) stamp (dir, name) (way_to to (tree_of S)).end) (entry_is S dir name None (free S agrees)))

  -- the second way is that of the entry's kind
  of_kind : (C : Settings) (S : TypedRows) → IsWellFormed C S → (e : DentRow) → get S.dents (dir, name) ≡ Some e
      → carried (tree_of S) to e.inode ≡ looks (λ T. placed_at T e.kind e.inode) (way_to to) (tree_of S)
  of_kind C S good e at =
      let target = (good.entry dir name e at).target in
      ap (λ (o : Option Node). if_node o (λ node. along (tree_of S) to Parent None (placed_at (tree_of S) (kind_of_part node.part) e.inode))) (node_is S e.inode (Some target.0) target.1)
      ∙ ap (λ (kind : Kind). along (tree_of S) to Parent None (placed_at (tree_of S) kind e.inode)) (kind_told target.0.part ∙ target.2)

  behind_it : (C : Settings) (reads : ReadSet) (e : DentRow) → IsEntryRead reads dir name e → KeepsAreas C areas (looks (λ T. placed_at T e.kind e.inode) (way_to to)) reads
  behind_it C reads e read =
      areas_on C areas (λ T. carried T to e.inode) (looks (λ T. placed_at T e.kind e.inode) (way_to to)) reads
      (names.behind_entry C outcome dir name (λ T. carried T to) reads e read.seen read.there)
      (λ S good agrees. ([], tt, of_kind C S good e (read.there S agrees)))

-- the second way is what is left
pub way_done : (to : Place) (stamp : ℕ) (from : Spot) (t : Transaction) (e : DentRow) → IsEntryRead t.reads from.dir from.name e → (after : Transaction) (step : OpStep)
    → IsRenameWayStep from to stamp e t after step
    → IsRenameEndStep to stamp (AtParent from.dir from.name) t after step
way_done to stamp from t e read after step done C =
    done_as C (λ T. rename_reads_at to T (AtParent from.dir from.name)) (looks (λ T. placed_at T e.kind e.inode) (way_to to)) (λ T. rename_does_at to stamp T (AtParent from.dir from.name)) (does (moves_from from stamp) (way_to to)) t after step
    (behind_it to stamp from.dir from.name C t.reads e read) (λ S good agrees. refl) (done C)
