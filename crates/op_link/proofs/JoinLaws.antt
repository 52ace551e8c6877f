-- What link owes where its ways end, by what is known of the rows.
use Rattle.std.proofs.Common.{◌≡◌, ◌≢◌, ℕ, ◌+◌, ◌<◌, ◌≤◌, ◌^◌, List, [], refl, ap, arith}
use Rattle.std.specs.Prelude.{IsTrue, Some, None}
use Rattle.std.specs.FinMap.{get}
use Rattle.byte_fields.specs.Fields.{time}
use Rattle.conflict_sets.specs.declared.sets.ReadSet.{ReadSet}
use Rattle.fs_base.specs.Config.{Settings}
use Rattle.fs_base.specs.Names.{is_name}
use Rattle.fs_base.specs.declared.call.Place.{Place}
use Rattle.fs_base.specs.declared.code.Code.{Code}
use Rattle.fs_base.specs.declared.code.Code.TheVariants as codes
use Rattle.fs_base.specs.declared.code.Limit.TheVariants.{Links}
use Rattle.fs_base.specs.declared.kind.Kind.{Kind}
use Rattle.fs_base.specs.declared.kind.Kind.TheVariants as kinds
use Rattle.fs_base.specs.declared.reply.Reply.TheVariants.{Done, Refused}
use Rattle.inode_record.specs.declared.inode.InodeRow.{InodeRow}
use Rattle.key_schema.specs.declared.key.Key.{Key}
use Rattle.key_schema.specs.declared.key.Key.TheVariants as keys
use Rattle.row_records.proofs.InRange.{done_fits}
use Rattle.row_records.specs.declared.rows.DentRow.{DentRow}
use Rattle.row_tree.specs.Steps.{recounted}
use Rattle.row_tree.specs.TreeOf.{tree_of}
use Rattle.row_tree.specs.TypedRows.{TypedRows, kind_of}
use Rattle.row_tree.specs.WellFormed.{IsWellFormed, HasKind}
use Rattle.row_tree.proofs.Joining.{link_taken, link_nowhere, link_full, link_one}
use Rattle.tree_model.specs.declared.walk.Walked.TheVariants.{At, AtParent, NoName, Stopped}
use Rattle.tree_model.specs.Effects.{Effect, at_length, refuses}
use Rattle.tree_model.specs.Linking.{link_to}
use Rattle.tree_model.specs.Tree.{Tree}
use Rattle.txn_task.specs.Agreeing.{Agrees}
use Rattle.txn_task.specs.Transactions.{Transaction}
use Rattle.txn_task.specs.Wanted.{IsKeyRead, IsUnread}
use Rattle.txn_task.specs.declared.messages.Ask.TheVariants as asks
use Rattle.txn_task.specs.declared.messages.Asked.{Asked}
use Rattle.txn_task.specs.declared.messages.OpStep.TheVariants as steps
use Rattle.path_walk.specs.Areas.{Area}
use Rattle.path_walk.specs.Directories.{IsDirRead}
use Rattle.path_walk.specs.Footprint.{free_name_at}
use Rattle.path_walk.specs.Owed.{HasRead}
use Rattle.path_walk.specs.Puts.{ArePuts, MakesPuts, put_writes}
use Rattle.path_walk.proofs.NameLaws as names
use Rattle.path_walk.proofs.PutLaws.{puts_done}
use Rattle.path_walk.proofs.StepLaws.{tells}
use Rattle.op_link.specs.Ending.{IsLinkEndStep, IsJoinStep, IsSource, MayJoin}
use Rattle.op_link.specs.Link.{link_does_at, link_reads_at}
use Rattle.path_walk.specs.RowPuts.{join_puts}
use Rattle.op_link.specs.declared.task.LinkCall.{LinkCall}
use Rattle.op_link.specs.declared.task.LinkCall.TheVariants as link
use Rattle.path_walk.proofs.RowPutLaws.{entry_put, links_within, row_fits, row_put}
use Rattle.op_link.proofs.SourceLaws.{source_kind, source_links, source_there}

-- ---- where the first way ends

module _ (t : Transaction) (none : t.writes ≡ []) (to : Place) (stamp : ℕ) where
  abbrev call : LinkCall
  call = link.Link to

  pub from_dir : (id : ℕ) → IsLinkEndStep (link.Link to) stamp (At id kinds.Dir) t t (steps.Reply (Refused codes.IsDir))
  from_dir id C = tells C (λ T. link_reads_at call T (At id kinds.Dir)) (λ T. link_does_at call stamp T (At id kinds.Dir)) t none (Refused codes.IsDir) (λ S good agrees. tt) (λ S good agrees. refl)

  pub from_parent : (dir : ℕ) (name : List ℕ) → IsLinkEndStep (link.Link to) stamp (AtParent dir name) t t (steps.Reply (Refused codes.NotDir))
  from_parent dir name C = tells C (λ T. link_reads_at call T (AtParent dir name)) (λ T. link_does_at call stamp T (AtParent dir name)) t none (Refused codes.NotDir) (λ S good agrees. tt) (λ S good agrees. refl)

  pub from_no_name : (dir : ℕ) → IsLinkEndStep (link.Link to) stamp (NoName dir) t t (steps.Reply (Refused codes.NotDir))
  from_no_name dir C = tells C (λ T. link_reads_at call T (NoName dir)) (λ T. link_does_at call stamp T (NoName dir)) t none (Refused codes.NotDir) (λ S good agrees. tt) (λ S good agrees. refl)

  pub from_stopped : (code : Code) → IsLinkEndStep (link.Link to) stamp (Stopped code) t t (steps.Reply (Refused code))
  from_stopped code C = tells C (λ T. link_reads_at call T (Stopped code)) (λ T. link_does_at call stamp T (Stopped code)) t none (Refused code) (λ S good agrees. tt) (λ S good agrees. refl)

-- ---- where the second way comes to no name

module _ (t : Transaction) (none : t.writes ≡ []) (id stamp : ℕ) where
  pub to_node : (other : ℕ) (kind : Kind) → IsJoinStep id stamp (At other kind) t t (steps.Reply (Refused codes.Exists))
  to_node other kind C = tells C (λ T. free_name_at (keys.Inode id) T (At other kind)) (λ T. link_to T stamp id (At other kind)) t none (Refused codes.Exists) (λ S good agrees. tt) (λ S good agrees. refl)

  pub to_no_name : (dir : ℕ) → IsJoinStep id stamp (NoName dir) t t (steps.Reply (Refused codes.Exists))
  to_no_name dir C = tells C (λ T. free_name_at (keys.Inode id) T (NoName dir)) (λ T. link_to T stamp id (NoName dir)) t none (Refused codes.Exists) (λ S good agrees. tt) (λ S good agrees. refl)

  pub to_stopped : (code : Code) → IsJoinStep id stamp (Stopped code) t t (steps.Reply (Refused code))
  to_stopped code C = tells C (λ T. free_name_at (keys.Inode id) T (Stopped code)) (λ T. link_to T stamp id (Stopped code)) t none (Refused code) (λ S good agrees. tt) (λ S good agrees. refl)

-- ---- at a name in a directory

module _ (id stamp dir : ℕ) (name : List ℕ) where
  abbrev outcome : Tree → Effect
  outcome T = link_to T stamp id (AtParent dir name)

  abbrev areas : Tree → List Area
  areas T = free_name_at (keys.Inode id) T (AtParent dir name)

  module _ (t : Transaction) (none : t.writes ≡ []) where
    pub asks_dir : (key : Key) → (key ≡ keys.Inode dir) × IsUnread t.reads (keys.Inode dir) → IsJoinStep id stamp (AtParent dir name) t t (steps.Ask (asks.Get key))
    asks_dir key unread C = names.asks_dir C (keys.Inode id) outcome dir name t none key unread

    pub nowhere : IsKeyRead t.reads (keys.Inode dir) → ((C : Settings) (S : TypedRows) → IsWellFormed C S → Agrees S t.reads → HasKind S dir kinds.Dir → ⊥) → IsJoinStep id stamp (AtParent dir name) t t (steps.Reply (Refused codes.NotDir))
    nowhere read not_dir C =
        names.nowhere C (keys.Inode id) outcome dir name t none read (not_dir C) (Refused codes.NotDir)
        (λ S good agrees. link_nowhere C S good stamp id dir name (not_dir C S good agrees))

  module _ (t : Transaction) (none : t.writes ≡ []) (has : IsDirRead t.reads dir) where
    pub asks_name : (key : Key) → (key ≡ keys.Dent dir name) × IsUnread t.reads (keys.Dent dir name) → IsJoinStep id stamp (AtParent dir name) t t (steps.Ask (asks.Get key))
    asks_name key unread C = names.asks_name C (keys.Inode id) outcome dir name t none has key unread

    pub taken : (e : DentRow) → IsKeyRead t.reads (keys.Dent dir name) → ((S : TypedRows) → Agrees S t.reads → get S.dents (dir, name) ≡ Some e) → IsJoinStep id stamp (AtParent dir name) t t (steps.Reply (Refused codes.Exists))
    taken e read is C =
        names.taken C (keys.Inode id) outcome dir name t none has e read is (Refused codes.Exists)
        (λ S good agrees. link_taken C S good stamp id dir name e (is S agrees))

    module _ (read : IsKeyRead t.reads (keys.Dent dir name)) (free : (S : TypedRows) → Agrees S t.reads → get S.dents (dir, name) ≡ None) where
      pub asks_node : (key : Key) → (key ≡ keys.Inode id) × IsUnread t.reads (keys.Inode id) → IsJoinStep id stamp (AtParent dir name) t t (steps.Ask (asks.Get key))
      asks_node key unread C = names.asks_last C (keys.Inode id) outcome dir name t none has key read free unread

      -- no rows have the entry that led to the node, and not the node
      pub no_node : IsSource t.reads id → IsKeyRead t.reads (keys.Inode id) → ((S : TypedRows) → Agrees S t.reads → get S.inodes id ≡ None) → IsJoinStep id stamp (AtParent dir name) t t (steps.Reply (Refused codes.NotFound))
      no_node source seen absent C =
          tells C areas outcome t none (Refused codes.NotFound) (names.all_read C (keys.Inode id) outcome dir name t.reads has read free seen)
          (λ S good agrees. absurd (source_there C S good id (source C S good agrees) (absent S agrees)))

  -- ---- all was read

  module _ (reads : ReadSet) (row : InodeRow) (source : IsSource reads id) (may : MayJoin reads dir name id row) (C : Settings) where
    all_read : HasRead C (λ T. free_name_at (keys.Inode id) T (AtParent dir name)) reads
    all_read = names.all_read C (keys.Inode id) outcome dir name reads may.in_dir may.seen_name may.free (may.node).seen

    no_dir : (S : TypedRows) → IsWellFormed C S → Agrees S reads → kind_of row.part ≢ kinds.Dir
    no_dir S good agrees = source_kind C S good id (source C S good agrees) row ((may.node).there S agrees)

    some_links : (S : TypedRows) → IsWellFormed C S → Agrees S reads → 1 ≤ row.links
    some_links S good agrees = source_links C S good id (source C S good agrees) row ((may.node).there S agrees)

    in_dir : (S : TypedRows) → Agrees S reads → HasKind S dir kinds.Dir
    in_dir S agrees = ((may.in_dir).row, (may.in_dir).there S agrees, (may.in_dir).is_dir)

    full_made : 65535 ≤ row.links → (S : TypedRows) → IsWellFormed C S → Agrees S reads → outcome (tree_of S) ≡ refuses (codes.AtLimit Links)
    full_made full S good agrees =
        let most = links_within row (row_fits reads id row (may.node).there S agrees) in
        link_full C S good stamp id dir name (in_dir S agrees) (may.free S agrees) row ((may.node).there S agrees) (no_dir S good agrees) (omega arith)

    module _ (small : id < 2 ^ 36) (time_ok : IsTrue (time.fits stamp)) (room : row.links < 65535) (low : dir < 2 ^ 36) (named : IsTrue (is_name name)) where
      puts_are : ArePuts C reads (join_puts dir name id (recounted stamp (row.links + 1) row))
      puts_are = (
        entry_put C reads dir name low named id (kind_of row.part) small may.free,
        (row_put C reads id small row (may.node).there stamp (row.links + 1) time_ok (λ S good agrees. (omega arith, (λ e. omega arith))), tt),
      )

      makes_link : MakesPuts C outcome reads (join_puts dir name id (recounted stamp (row.links + 1) row)) Done
      makes_link S good agrees =
          let one = link_one C S good stamp id dir name (in_dir S agrees) (may.free S agrees) row ((may.node).there S agrees) (no_dir S good agrees) (some_links S good agrees) (λ e. omega arith) in
          (one.0, ap (at_length 0) one.1)

  module _ (t : Transaction) (none : t.writes ≡ []) (row : InodeRow) (source : IsSource t.reads id) (may : MayJoin t.reads dir name id row) where
    pub full_done : 65535 ≤ row.links → IsJoinStep id stamp (AtParent dir name) t t (steps.Reply (Refused (codes.AtLimit Links)))
    full_done full C = tells C areas outcome t none (Refused (codes.AtLimit Links)) (all_read t.reads row source may C) (full_made t.reads row source may C full)

    pub one_done : id < 2 ^ 36 → IsTrue (time.fits stamp) → row.links < 65535 → dir < 2 ^ 36 → IsTrue (is_name name) → (u : Transaction) (asked : List Asked)
        → u ≡ record t { writes = put_writes (join_puts dir name id (recounted stamp (row.links + 1) row)) } → asked ≡ [] → IsJoinStep id stamp (AtParent dir name) t u (steps.Commit Done asked)
    one_done small time_ok room low named u asked after empty C =
        puts_done C areas outcome t u Done asked (join_puts dir name id (recounted stamp (row.links + 1) row)) (all_read t.reads row source may C)
        (puts_are t.reads row source may C small time_ok room low named) after done_fits empty (makes_link t.reads row source may C small time_ok room low named)
