-- What rmdir owes where its way ends, by what is known of the rows.
use Rattle.std.proofs.Common.{◌≡◌, ◌≢◌, ℕ, ◌<◌, ◌^◌, List, [], ◌∷◌, refl, sym, ap, subst, ◌∙◌, inl, arith}
use Rattle.std.specs.Prelude.{IsTrue, Option, Some, None}
use Rattle.std.specs.FinMap.{get}
use Rattle.conflict_sets.specs.declared.sets.ReadSet.{ReadSet}
use Rattle.fs_base.specs.Config.{Settings}
use Rattle.fs_base.specs.Names.{is_name}
use Rattle.fs_base.specs.declared.code.Code.{Code}
use Rattle.fs_base.specs.declared.code.Code.TheVariants as codes
use Rattle.fs_base.specs.declared.kind.Kind.{Kind}
use Rattle.fs_base.specs.declared.kind.Kind.TheVariants as kinds
use Rattle.fs_base.specs.declared.reply.Reply.TheVariants.{Done, Refused}
use Rattle.inode_record.specs.declared.inode.InodePart.{InodePart}
use Rattle.inode_record.specs.declared.inode.InodePart.TheVariants as parts
use Rattle.key_schema.specs.Ranges.{dir_prefix, raised}
use Rattle.key_schema.specs.declared.key.Key.{Key}
use Rattle.key_schema.specs.declared.key.Key.TheVariants as keys
use Rattle.row_records.proofs.InRange.{done_fits}
use Rattle.row_records.specs.declared.rows.DentRow.{DentRow}
use Rattle.row_tree.specs.TreeOf.{tree_of, node_part}
use Rattle.row_tree.specs.TypedRows.{TypedRows, kind_of}
use Rattle.row_tree.specs.WellFormed.{IsWellFormed}
use Rattle.row_tree.proofs.Detaching.{rmdir_absent, rmdir_empty, rmdir_other, rmdir_used}
use Rattle.row_tree.proofs.Telling.{node_is}
use Rattle.tree_model.specs.declared.node.Node.{Node}
use Rattle.tree_model.specs.declared.walk.Walked.TheVariants.{At, AtParent, NoName, Stopped}
use Rattle.tree_model.specs.Effects.{Effect, at_length}
use Rattle.tree_model.specs.Linking.{rmdir_at}
use Rattle.tree_model.specs.Tree.{Tree}
use Rattle.txn_task.specs.Agreeing.{Agrees}
use Rattle.txn_task.specs.Transactions.{Transaction}
use Rattle.txn_task.specs.Wanted.{AsksFirst, IsFirstRead, IsKeyRead, IsUnread}
use Rattle.txn_task.specs.declared.messages.Ask.{Ask}
use Rattle.txn_task.specs.declared.messages.Ask.TheVariants as asks
use Rattle.txn_task.specs.declared.messages.Asked.{Asked}
use Rattle.txn_task.specs.declared.messages.OpStep.TheVariants as steps
use Rattle.path_walk.specs.Areas.{Area, FirstRow, AreRead}
use Rattle.path_walk.specs.Footprint.{emptied_at, in_dir, in_part}
use Rattle.path_walk.specs.Owed.{HasDone, HasRead, KeepsAreas}
use Rattle.path_walk.specs.Puts.{ArePuts, MakesPuts, put_writes}
use Rattle.path_walk.proofs.NameLaws as names
use Rattle.path_walk.proofs.NameLaws.{in_directory}
use Rattle.path_walk.proofs.PutLaws.{puts_done}
use Rattle.path_walk.proofs.StepLaws.{areas_on, asks_for, may_behind, read_behind, tells}
use Rattle.path_walk.specs.Directories.{IsEntryRead}
use Rattle.op_link.specs.Ending.{IsLinkEndStep}
use Rattle.path_walk.specs.RowPuts.{gone_puts}
use Rattle.op_link.specs.declared.task.LinkCall.TheVariants as link
use Rattle.path_walk.proofs.RowPutLaws.{entry_taken, node_taken}

-- ---- where the way comes to no name

module _ (t : Transaction) (none : t.writes ≡ []) (stamp : ℕ) where
  pub at_node : (id : ℕ) (kind : Kind) → IsLinkEndStep link.Rmdir stamp (At id kind) t t (steps.Reply (Refused codes.IsRoot))
  at_node id kind C = tells C (λ T. emptied_at T (At id kind)) (λ T. rmdir_at T (At id kind)) t none (Refused codes.IsRoot) (λ S good agrees. tt) (λ S good agrees. refl)

  pub no_name : (dir : ℕ)
      → IsLinkEndStep link.Rmdir stamp (NoName dir) t t (steps.Reply (Refused codes.IsRoot))
  no_name dir C = tells C (λ T. emptied_at T (NoName dir)) (λ T. rmdir_at T (NoName dir)) t none (Refused codes.IsRoot) (λ S good agrees. tt) (λ S good agrees. refl)

  pub stopped : (code : Code) → IsLinkEndStep link.Rmdir stamp (Stopped code) t t (steps.Reply (Refused code))
  stopped code C = tells C (λ T. emptied_at T (Stopped code)) (λ T. rmdir_at T (Stopped code)) t none (Refused code) (λ S good agrees. tt) (λ S good agrees. refl)

other_part : (part : InodePart) (areas : List Area) → kind_of part ≢ kinds.Dir → in_part (node_part part) areas ≡ []
other_part (parts.Dir parent chunk stripe) areas k = absurd (k refl)
other_part (parts.File length truncs layout hint) areas k = refl
other_part (parts.Link target) areas k = refl

module _ (stamp dir : ℕ) (name : List ℕ) where
  abbrev outcome : Tree → Effect
  outcome T = rmdir_at T (AtParent dir name)

  abbrev areas : Tree → List Area
  areas T = emptied_at T (AtParent dir name)

  abbrev first_of : ℕ → Area
  first_of id = FirstRow (dir_prefix id) (raised (dir_prefix id))

  abbrev inside : Tree → ℕ → List Area
  inside T id = in_dir (get T.nodes id) (FirstRow (dir_prefix id) (raised (dir_prefix id)) ∷ [])

  module _ (t : Transaction) (none : t.writes ≡ []) where
    pub asks_entry : (key : Key) → (key ≡ keys.Dent dir name) × IsUnread t.reads (keys.Dent dir name) → IsLinkEndStep link.Rmdir stamp (AtParent dir name) t t (steps.Ask (asks.Get key))
    asks_entry key unread C = names.asks_entry C outcome dir name inside t none key unread

    pub no_entry : IsKeyRead t.reads (keys.Dent dir name) → ((S : TypedRows) → Agrees S t.reads → get S.dents (dir, name) ≡ None) → IsLinkEndStep link.Rmdir stamp (AtParent dir name) t t (steps.Reply (Refused codes.NotFound))
    no_entry read free C = names.no_entry C outcome dir name inside t none read free (Refused codes.NotFound) (λ S good agrees. rmdir_absent C S good stamp dir name (free S agrees))

  -- ---- of what the entry leads to

  module _ (C : Settings) (reads : ReadSet) (e : DentRow) (entry : IsEntryRead reads dir name e) where
    behind_entry : KeepsAreas C areas (λ T. inside T e.inode) reads
    behind_entry = names.behind_entry C outcome dir name inside reads e entry.seen entry.there

    target_areas : (wanted : List Area) → ((part : InodePart) → kind_of part ≡ e.kind → in_part (node_part part) (first_of e.inode ∷ []) ≡ wanted)
        → (S : TypedRows) → IsWellFormed C S → Agrees S reads → inside (tree_of S) e.inode ≡ wanted
    target_areas wanted by S good agrees =
        let target = (good.entry dir name e (entry.there S agrees)).target in
        ap (λ (o : Option Node). in_dir o (first_of e.inode ∷ [])) (node_is S e.inode (Some target.0) target.1) ∙ by target.0.part target.2

    no_more : e.kind ≢ kinds.Dir → HasRead C areas reads
    no_more other =
        read_behind C areas (λ T. inside T e.inode) reads behind_entry
        (λ S good agrees. subst (AreRead reads) (sym (target_areas [] (λ part k. other_part part _ (λ d. other (sym k ∙ d))) S good agrees)) tt)

    behind_dir : e.kind ≡ kinds.Dir → KeepsAreas C areas (λ T. first_of e.inode ∷ []) reads
    behind_dir is_dir =
        areas_on C areas (λ T. inside T e.inode) (λ T. first_of e.inode ∷ []) reads behind_entry
        (λ S good agrees. ([], tt, target_areas (first_of e.inode ∷ []) (λ part k. in_directory part _ (k ∙ is_dir)) S good agrees))

    all_read : e.kind ≡ kinds.Dir → IsFirstRead reads (dir_prefix e.inode) (raised (dir_prefix e.inode)) → HasRead C areas reads
    all_read is_dir seen = read_behind C areas (λ T. first_of e.inode ∷ []) reads (behind_dir is_dir) (λ S good agrees. (seen, tt))

  module _ (t : Transaction) (none : t.writes ≡ []) (e : DentRow) (entry : IsEntryRead t.reads dir name e) where
    pub at_other : e.kind ≢ kinds.Dir → IsLinkEndStep link.Rmdir stamp (AtParent dir name) t t (steps.Reply (Refused codes.NotDir))
    at_other other C = tells C areas outcome t none (Refused codes.NotDir) (no_more C t.reads e entry other) (λ S good agrees. rmdir_other C S good stamp dir name e (entry.there S agrees) other)

    module _ (is_dir : e.kind ≡ kinds.Dir) where
      pub asks_range : (ask : Ask) → AsksFirst (dir_prefix e.inode) (raised (dir_prefix e.inode)) t.reads.ranges ask → IsLinkEndStep link.Rmdir stamp (AtParent dir name) t t (steps.Ask ask)
      asks_range ask asked C =
          subst (λ (x : Ask). HasDone C areas outcome t t (steps.Ask x)) (sym asked.1)
          (asks_for C areas outcome t none (asks.Range (dir_prefix e.inode) (raised (dir_prefix e.inode)) 1) (omega arith)
          (may_behind C areas (λ T. first_of e.inode ∷ []) t.reads (asks.Range (dir_prefix e.inode) (raised (dir_prefix e.inode)) 1) (behind_dir C t.reads e entry is_dir)
          (λ S good agrees. inl (refl, refl, refl, asked.0))))

      pub at_used : IsFirstRead t.reads (dir_prefix e.inode) (raised (dir_prefix e.inode)) → ((S : TypedRows) → Agrees S t.reads → (other : List ℕ) × (row : DentRow) × (get S.dents (e.inode, other) ≡ Some row))
          → IsLinkEndStep link.Rmdir stamp (AtParent dir name) t t (steps.Reply (Refused codes.NotEmpty))
      at_used seen used C =
          tells C areas outcome t none (Refused codes.NotEmpty) (all_read C t.reads e entry is_dir seen)
          (λ S good agrees. let some = used S agrees in rmdir_used C S good stamp dir name e (entry.there S agrees) is_dir some.0 some.1 some.2)

      -- ---- all was read

      pub gone_done : IsFirstRead t.reads (dir_prefix e.inode) (raised (dir_prefix e.inode)) → ((S : TypedRows) → Agrees S t.reads → (other : List ℕ) → get S.dents (e.inode, other) ≡ None)
          → e.inode < 2 ^ 36 → dir < 2 ^ 36 → IsTrue (is_name name) → (u : Transaction) (asked : List Asked) → u ≡ record t { writes = put_writes (gone_puts dir name e.inode) } → asked ≡ []
          → IsLinkEndStep link.Rmdir stamp (AtParent dir name) t u (steps.Commit Done asked)
      gone_done seen empty small low named u asked after none_asked C =
          puts_done C areas outcome t u Done asked (gone_puts dir name e.inode) (all_read C t.reads e entry is_dir seen) are after done_fits none_asked makes
        where
          are : ArePuts C t.reads (gone_puts dir name e.inode)
          are = (node_taken C t.reads e.inode small (λ S good agrees. let target = (good.entry dir name e (entry.there S agrees)).target in (target.0, target.1)), (entry_taken C t.reads dir name low named e entry.there, tt))

          makes : MakesPuts C outcome t.reads (gone_puts dir name e.inode) Done
          makes S good agrees =
              let one = rmdir_empty C S good stamp dir name e (entry.there S agrees) is_dir (empty S agrees) in
              (one.0, ap (at_length 0) one.1)
