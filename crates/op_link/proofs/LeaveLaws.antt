-- What unlink owes where its way ends, by what is known of the rows.
use Rattle.std.proofs.Common.{◌≡◌, ◌≢◌, ℕ, ◌<◌, ◌^◌, List, [], ◌∷◌, refl, sym, ap, subst, ◌∙◌}
use Rattle.std.specs.Prelude.{IsTrue, Option, Some, None}
use Rattle.std.specs.FinMap.{get}
use Rattle.byte_fields.specs.Fields.{time}
use Rattle.conflict_sets.specs.declared.sets.ReadSet.{ReadSet}
use Rattle.fs_base.specs.Config.{Settings}
use Rattle.fs_base.specs.Names.{is_name}
use Rattle.fs_base.specs.declared.code.Code.{Code}
use Rattle.fs_base.specs.declared.code.Code.TheVariants as codes
use Rattle.fs_base.specs.declared.kind.Kind.{Kind}
use Rattle.fs_base.specs.declared.kind.Kind.TheVariants as kinds
use Rattle.fs_base.specs.declared.reply.Reply.TheVariants.{Done, Refused}
use Rattle.inode_record.specs.declared.inode.InodePart.{InodePart}
use Rattle.inode_record.specs.declared.inode.InodePart.TheVariants as parts
use Rattle.inode_record.specs.declared.inode.InodeRow.{InodeRow}
use Rattle.key_schema.specs.declared.key.Key.{Key}
use Rattle.key_schema.specs.declared.key.Key.TheVariants as keys
use Rattle.row_records.proofs.InRange.{done_fits}
use Rattle.row_records.specs.declared.rows.DentRow.{DentRow}
use Rattle.row_tree.specs.TreeOf.{tree_of, node_part}
use Rattle.row_tree.specs.TypedRows.{TypedRows, kind_of}
use Rattle.row_tree.specs.WellFormed.{IsWellFormed}
use Rattle.row_tree.proofs.Detaching.{unlink_absent, unlink_dir}
use Rattle.row_tree.proofs.Telling.{node_is}
use Rattle.tree_model.specs.declared.node.Node.{Node}
use Rattle.tree_model.specs.declared.walk.Walked.TheVariants.{At, AtParent, NoName, Stopped}
use Rattle.tree_model.specs.Effects.{Effect, at_length}
use Rattle.tree_model.specs.Linking.{unlink_at}
use Rattle.tree_model.specs.Tree.{Tree}
use Rattle.tree_model.proofs.MapLaws.{not_some}
use Rattle.txn_task.specs.Agreeing.{Agrees}
use Rattle.txn_task.specs.Transactions.{Transaction}
use Rattle.txn_task.specs.Wanted.{IsKeyRead, IsUnread}
use Rattle.txn_task.specs.declared.messages.Ask.TheVariants as asks
use Rattle.txn_task.specs.declared.messages.Asked.{Asked}
use Rattle.txn_task.specs.declared.messages.OpStep.TheVariants as steps
use Rattle.path_walk.specs.Areas.{Area, OneKey, AreRead}
use Rattle.path_walk.specs.Footprint.{beside_part, unless_dir, unlinked_at}
use Rattle.path_walk.specs.Owed.{HasRead, KeepsAreas}
use Rattle.path_walk.specs.Puts.{put_writes}
use Rattle.path_walk.proofs.NameLaws as names
use Rattle.path_walk.proofs.PutLaws.{puts_done}
use Rattle.path_walk.proofs.StepLaws.{areas_on, asks_key, read_behind, tells}
use Rattle.path_walk.specs.Directories.{IsEntryRead, IsRowRead}
use Rattle.op_link.specs.Ending.{IsLinkEndStep}
use Rattle.path_walk.specs.RowPuts.{unlinked_puts}
use Rattle.op_link.specs.declared.task.LinkCall.TheVariants as link
use Rattle.path_walk.proofs.UnlinkLaws.{unlinked_are, unlinked_made}

-- ---- where the way comes to no name

module _ (t : Transaction) (none : t.writes ≡ []) (stamp : ℕ) where
  pub at_node : (id : ℕ) (kind : Kind) → IsLinkEndStep link.Unlink stamp (At id kind) t t (steps.Reply (Refused codes.IsRoot))
  at_node id kind C = tells C (λ T. unlinked_at T (At id kind)) (λ T. unlink_at T stamp (At id kind)) t none (Refused codes.IsRoot) (λ S good agrees. tt) (λ S good agrees. refl)

  pub no_name : (dir : ℕ)
      → IsLinkEndStep link.Unlink stamp (NoName dir) t t (steps.Reply (Refused codes.IsRoot))
  no_name dir C = tells C (λ T. unlinked_at T (NoName dir)) (λ T. unlink_at T stamp (NoName dir)) t none (Refused codes.IsRoot) (λ S good agrees. tt) (λ S good agrees. refl)

  pub stopped : (code : Code)
      → IsLinkEndStep link.Unlink stamp (Stopped code) t t (steps.Reply (Refused code))
  stopped code C = tells C (λ T. unlinked_at T (Stopped code)) (λ T. unlink_at T stamp (Stopped code)) t none (Refused code) (λ S good agrees. tt) (λ S good agrees. refl)

beside_dir : (part : InodePart) (areas : List Area) → kind_of part ≡ kinds.Dir → beside_part (node_part part) areas ≡ []
beside_dir (parts.Dir parent chunk stripe) areas k = refl
beside_dir (parts.File length truncs layout hint) areas k = cc
beside_dir (parts.Link target) areas k = cc

beside_other : (part : InodePart) (areas : List Area) → kind_of part ≢ kinds.Dir → beside_part (node_part part) areas ≡ areas
beside_other (parts.Dir parent chunk stripe) areas k = absurd (k refl)
beside_other (parts.File length truncs layout hint) areas k = refl
beside_other (parts.Link target) areas k = refl

module _ (stamp dir : ℕ) (name : List ℕ) where
  abbrev outcome : Tree → Effect
  outcome T = unlink_at T stamp (AtParent dir name)

  abbrev areas : Tree → List Area
  areas T = unlinked_at T (AtParent dir name)

  abbrev node : Tree → ℕ → List Area
  node T id = unless_dir (get T.nodes id) (OneKey (keys.Inode id) ∷ [])

  module _ (t : Transaction) (none : t.writes ≡ []) where
    pub asks_entry : (key : Key) → (key ≡ keys.Dent dir name) × IsUnread t.reads (keys.Dent dir name) → IsLinkEndStep link.Unlink stamp (AtParent dir name) t t (steps.Ask (asks.Get key))
    asks_entry key unread C = names.asks_entry C outcome dir name node t none key unread

    pub no_entry : IsKeyRead t.reads (keys.Dent dir name) → ((S : TypedRows) → Agrees S t.reads → get S.dents (dir, name) ≡ None) → IsLinkEndStep link.Unlink stamp (AtParent dir name) t t (steps.Reply (Refused codes.NotFound))
    no_entry read free C = names.no_entry C outcome dir name node t none read free (Refused codes.NotFound) (λ S good agrees. unlink_absent C S good stamp dir name (free S agrees))

  -- ---- of what the entry leads to

  module _ (C : Settings) (reads : ReadSet) (e : DentRow) (entry : IsEntryRead reads dir name e) where
    behind_entry : KeepsAreas C areas (λ T. node T e.inode) reads
    behind_entry = names.behind_entry C outcome dir name node reads e entry.seen entry.there

    target_areas : (wanted : List Area) → ((part : InodePart) → kind_of part ≡ e.kind → beside_part (node_part part) (OneKey (keys.Inode e.inode) ∷ []) ≡ wanted)
        → (S : TypedRows) → IsWellFormed C S → Agrees S reads → node (tree_of S) e.inode ≡ wanted
    target_areas wanted by S good agrees =
        let target = (good.entry dir name e (entry.there S agrees)).target in
        ap (λ (o : Option Node). unless_dir o (OneKey (keys.Inode e.inode) ∷ [])) (node_is S e.inode (Some target.0) target.1) ∙ by target.0.part target.2

    no_more : e.kind ≡ kinds.Dir → HasRead C areas reads
    no_more is_dir =
        read_behind C areas (λ T. node T e.inode) reads behind_entry
        (λ S good agrees. subst (AreRead reads) (sym (target_areas [] (λ part k. beside_dir part _ (k ∙ is_dir)) S good agrees)) tt)

    behind_other : e.kind ≢ kinds.Dir → KeepsAreas C areas (λ T. OneKey (keys.Inode e.inode) ∷ []) reads
    behind_other other =
        areas_on C areas (λ T. node T e.inode) (λ T. OneKey (keys.Inode e.inode) ∷ []) reads behind_entry
        (λ S good agrees. ([], tt, target_areas (OneKey (keys.Inode e.inode) ∷ []) (λ part k. beside_other part _ (λ d. other (sym k ∙ d))) S good agrees))

    all_read : e.kind ≢ kinds.Dir → IsKeyRead reads (keys.Inode e.inode) → HasRead C areas reads
    all_read other seen = read_behind C areas (λ T. OneKey (keys.Inode e.inode) ∷ []) reads (behind_other other) (λ S good agrees. (seen, tt))

  module _ (t : Transaction) (none : t.writes ≡ []) (e : DentRow) (entry : IsEntryRead t.reads dir name e) where
    pub at_dir : e.kind ≡ kinds.Dir → IsLinkEndStep link.Unlink stamp (AtParent dir name) t t (steps.Reply (Refused codes.IsDir))
    at_dir is_dir C = tells C areas outcome t none (Refused codes.IsDir) (no_more C t.reads e entry is_dir) (λ S good agrees. unlink_dir C S good stamp dir name e (entry.there S agrees) is_dir)

    module _ (other : e.kind ≢ kinds.Dir) where
      pub asks_node : (key : Key) → (key ≡ keys.Inode e.inode) × IsUnread t.reads (keys.Inode e.inode) → IsLinkEndStep link.Unlink stamp (AtParent dir name) t t (steps.Ask (asks.Get key))
      asks_node key unread C = asks_key C areas outcome t none key (keys.Inode e.inode) (λ T. []) unread (behind_other C t.reads e entry other)

      -- no rows have the entry, and not the node
      pub no_node : IsKeyRead t.reads (keys.Inode e.inode) → ((S : TypedRows) → Agrees S t.reads → get S.inodes e.inode ≡ None) → IsLinkEndStep link.Unlink stamp (AtParent dir name) t t (steps.Reply (Refused codes.NotFound))
      no_node seen absent C =
          tells C areas outcome t none (Refused codes.NotFound) (all_read C t.reads e entry other seen)
          (λ S good agrees. let target = (good.entry dir name e (entry.there S agrees)).target in absurd (not_some target.0 (absent S agrees) target.1))

  -- ---- all was read

  module _ (t : Transaction) (none : t.writes ≡ []) (e : DentRow) (entry : IsEntryRead t.reads dir name e) (other : e.kind ≢ kinds.Dir) (row : InodeRow) (is : IsRowRead t.reads e.inode row) (small : e.inode < 2 ^ 36) (low : dir < 2 ^ 36) (named : IsTrue (is_name name)) where
    pub left_done : IsTrue (time.fits stamp) → (u : Transaction) (asked : List Asked) → asked ≡ [] → u ≡ record t { writes = put_writes (unlinked_puts stamp dir name e row) }
        → IsLinkEndStep link.Unlink stamp (AtParent dir name) t u (steps.Commit Done asked)
    left_done time_ok u asked empty after C =
        puts_done C areas outcome t u Done asked (unlinked_puts stamp dir name e row) (all_read C t.reads e entry other is.seen)
        (unlinked_are stamp dir name e row C other t.reads entry is small low named time_ok) after done_fits empty
        (λ S good agrees.
        let one = unlinked_made stamp dir name e row C other S good (entry.there S agrees) (is.there S agrees) in
        (one.0, ap (at_length 0) one.1))
