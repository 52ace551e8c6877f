-- What opening a file owes where its walk has ended, and how a task begins.
use Rattle.std.proofs.Common.{◌≡◌, ◌≢◌, ℕ, ◌<◌, ◌≤◌, ◌^◌, List, [], ◌∷◌, refl, sym, ap, subst, ◌∙◌}
use Rattle.std.specs.Prelude.{IsTrue, Option, Some, None, Ok, Err}
use Rattle.std.specs.Option.{ok_or, option_map}
use Rattle.std.specs.FinMap.{get}
use Rattle.byte_fields.specs.Fields.{time}
use Rattle.fs_base.specs.Config.{Settings}
use Rattle.fs_base.specs.declared.call.Call.{Call}
use Rattle.fs_base.specs.declared.call.Call.TheVariants as calls
use Rattle.fs_base.specs.declared.call.Place.{Place}
use Rattle.fs_base.specs.declared.call.Request.{Request}
use Rattle.fs_base.specs.declared.code.Code.{Code}
use Rattle.fs_base.specs.declared.code.Code.TheVariants as codes
use Rattle.fs_base.specs.declared.ids.ClientId.{ClientId}
use Rattle.fs_base.specs.declared.kind.Kind.{Kind}
use Rattle.fs_base.specs.declared.kind.Kind.TheVariants as kinds
use Rattle.fs_base.specs.declared.reply.FileInfo.{FileInfo}
use Rattle.fs_base.specs.declared.reply.Reply.{Reply}
use Rattle.fs_base.specs.declared.reply.Reply.TheVariants.{File, Refused}
use Rattle.inode_record.specs.declared.inode.InodeRow.{InodeRow}
use Rattle.key_schema.specs.Keys.{spelled_key}
use Rattle.key_schema.specs.declared.key.Key.{Key}
use Rattle.key_schema.specs.declared.key.Key.TheVariants as keys
use Rattle.row_records.specs.Rows.{spelled_session}
use Rattle.row_tree.specs.TreeOf.{node_of, node_part, tree_of}
use Rattle.row_tree.specs.TypedRows.{TypedRows, kind_of}
use Rattle.row_tree.specs.Values.{SessionValue, Value, spelled_value}
use Rattle.row_tree.specs.WellFormed.{HasKind}
use Rattle.row_tree.proofs.Sessions.{adds_session, tree_with_session}
use Rattle.row_tree.proofs.Telling.{node_is}
use Rattle.tree_model.specs.declared.walk.Walked.{Walked}
use Rattle.tree_model.specs.declared.walk.Walked.TheVariants.{At}
use Rattle.tree_model.specs.Effects.{Leaves, Makes, at_length, refuses}
use Rattle.tree_model.specs.Sessions.{file_of, on_file, opened_at, opened_node, with_writer}
use Rattle.tree_model.specs.Tree.{Tree}
use Rattle.txn_task.specs.Agreeing.{Agrees}
use Rattle.txn_task.specs.Transactions.{Transaction}
use Rattle.txn_task.specs.Wanted.{IsKeyRead, IsUnread}
use Rattle.txn_task.specs.Writes.{set_write}
use Rattle.txn_task.specs.declared.messages.Ask.TheVariants as asks
use Rattle.txn_task.specs.declared.messages.Asked.{Asked}
use Rattle.txn_task.specs.declared.messages.OpStep.TheVariants as steps
use Rattle.path_walk.specs.Areas.{AreRead, Area, OneKey}
use Rattle.path_walk.specs.Footprint.{file_row_at}
use Rattle.path_walk.specs.Puts.{ArePuts, MakesPuts}
use Rattle.path_walk.proofs.PutLaws.{puts_done}
use Rattle.path_walk.proofs.StepLaws.{asks_key, tells}
use Rattle.op_session.specs.Beginning.{IsOpenOf}
use Rattle.op_session.specs.Ending.{IsFileRead, IsNodeStep}
use Rattle.op_session.specs.Session.{MayOpen, opens_at}
use Rattle.op_session.specs.declared.task.OpenMode.{OpenMode}
use Rattle.op_session.specs.declared.task.OpenMode.TheVariants as modes
use Rattle.op_session.proofs.HintRows.{IsFilePart, file_parts}
use Rattle.op_session.proofs.Ranges.{IsInRange, file_fits, session_fits}

-- ---- how a task begins

pub begins_ready : (q : Request) (asked : Call) (mode : OpenMode) (place : Place) → 1 ≤ q.number → IsTrue (time.fits q.stamp) → IsOpenOf q asked mode place → MayOpen mode
begins_ready q (calls.Openr at) mode place from fits is = subst MayOpen (sym is.1) tt
begins_ready q (calls.Open at) mode place from fits is = subst MayOpen (sym is.1) (from, fits)
begins_ready q asked mode place from fits is = absurd is

-- ---- what stands at a node that is no directory by its entry

opened_kind : (T : Tree) (id : ℕ) (kind : Kind) → kind ≢ kinds.Dir → opened_at T (At id kind) ≡ opened_node id (get T.nodes id)
opened_kind T id kinds.Dir other = absurd (other refl)
opened_kind T id kinds.File other = refl
opened_kind T id kinds.Link other = refl

abbrev key_at : ℕ → List Area
key_at id = OneKey (keys.Inode id) ∷ []

file_area : (id : ℕ) (kind : Kind) → kind ≢ kinds.Dir → file_row_at (At id kind) ≡ key_at id
file_area id kinds.Dir other = absurd (other refl)
file_area id kinds.File other = refl
file_area id kinds.Link other = refl

refused_at : (mode : OpenMode) (client : ClientId) (T : Tree) (walked : Walked) (code : Code) → opened_at T walked ≡ Err code → opens_at mode client T walked ≡ refuses code
refused_at modes.Read client T walked code is = ap (λ r. on_file r (λ file. Leaves (File file))) is
refused_at (modes.Write number stamp) client T walked code is = ap (λ r. on_file r (λ file. Makes (with_writer T file.inode client number) (File file))) is

module _ (t : Transaction) (none : t.writes ≡ []) (mode : OpenMode) (client : ClientId) (id : ℕ) where
  told : (reply : Reply) → IsKeyRead t.reads (keys.Inode id) → ((kind : Kind) → kind ≢ kinds.Dir → (S : TypedRows) → Agrees S t.reads → opens_at mode client (tree_of S) (At id kind) ≡ Leaves reply) → IsNodeStep mode client id t t (steps.Reply reply)
  told reply read is kind other C =
      tells C (λ T. file_row_at (At id kind)) (λ T. opens_at mode client T (At id kind)) t none reply
      (λ S good agrees. subst (AreRead t.reads) (sym (file_area id kind other)) (read, tt)) (λ S good agrees. is kind other S agrees)

  node_at : (kind : Kind) → kind ≢ kinds.Dir → (S : TypedRows) (o : Option InodeRow) → get S.inodes id ≡ o → opened_at (tree_of S) (At id kind) ≡ opened_node id (option_map node_of o)
  node_at kind other S o is = opened_kind (tree_of S) id kind other ∙ ap (opened_node id) (node_is S id o is)

  pub asks_node : (key : Key) → (key ≡ keys.Inode id) × IsUnread t.reads (keys.Inode id) → IsNodeStep mode client id t t (steps.Ask (asks.Get key))
  asks_node key unread kind other C =
      asks_key C (λ T. file_row_at (At id kind)) (λ T. opens_at mode client T (At id kind)) t none key (keys.Inode id) (λ T. []) unread (λ S good agrees. ([], tt, file_area id kind other))

  pub nowhere : IsKeyRead t.reads (keys.Inode id) → ((S : TypedRows) → Agrees S t.reads → get S.inodes id ≡ None) → IsNodeStep mode client id t t (steps.Reply (Refused codes.NotFound))
  nowhere read absent = told (Refused codes.NotFound) read (λ kind other S agrees. refused_at mode client (tree_of S) (At id kind) codes.NotFound (node_at kind other S None (absent S agrees)))

  pub no_file : (row : InodeRow) → IsKeyRead t.reads (keys.Inode id) → ((S : TypedRows) → Agrees S t.reads → get S.inodes id ≡ Some row) → file_of id (node_part row.part) ≡ None → IsNodeStep mode client id t t (steps.Reply (Refused codes.IsDir))
  no_file row read there is =
      told (Refused codes.IsDir) read
      (λ kind other S agrees. refused_at mode client (tree_of S) (At id kind) codes.IsDir (node_at kind other S (Some row) (there S agrees) ∙ ap (λ (o : Option FileInfo). ok_or o codes.IsDir) is))

  module _ (file : FileInfo) (is : IsFileRead t.reads id file) where
    opened_file : (kind : Kind) → kind ≢ kinds.Dir → (S : TypedRows) → Agrees S t.reads → opened_at (tree_of S) (At id kind) ≡ Ok file
    opened_file kind other S agrees = node_at kind other S (Some is.row) (is.read.there S agrees) ∙ ap (λ (o : Option FileInfo). ok_or o codes.IsDir) is.is_file

    pub opened_to_read : mode ≡ modes.Read → IsNodeStep mode client id t t (steps.Reply (File file))
    opened_to_read reads =
        told (File file) is.read.seen (λ kind other S agrees.
        ap (λ (m : OpenMode). opens_at m client (tree_of S) (At id kind)) reads ∙ ap (λ r. on_file r (λ (f : FileInfo). Leaves (File f))) (opened_file kind other S agrees))

-- ---- a session

module _ (t u : Transaction) (none : t.writes ≡ []) (client : ClientId) (id : ℕ) (number stamp : ℕ) (file : FileInfo) (is : IsFileRead t.reads id file) (may : MayOpen (modes.Write number stamp)) (small : id < 2 ^ 36)
    (client_small : client.0 < 2 ^ 128) (number_small : number < 2 ^ 64) where
  abbrev puts : List (Key × Option Value)
  puts = (keys.Session id client number, Some (SessionValue stamp)) ∷ []

  part : IsFilePart id (is.row).part file
  part = file_parts id (is.row).part file is.is_file

  has_file : (S : TypedRows) → Agrees S t.reads → HasKind S id kinds.File
  has_file S agrees = (is.row, is.read.there S agrees, ap kind_of part.is)

  are_puts : (C : Settings) → ArePuts C t.reads (puts)
  are_puts C = (
    record {
      valid = (small, (client_small, may.0, number_small));
      no_kept = refl;
      changes = λ S good agrees. ((refl, session_fits stamp may.1), tt);
    },
    tt,
  )

  makes : (C : Settings) (kind : Kind) → kind ≢ kinds.Dir → MakesPuts C (λ T. opens_at (modes.Write number stamp) client T (At id kind)) t.reads (puts) (File file)
  makes C kind other S good agrees = (
    adds_session C S good id client.0 number stamp (has_file S agrees),
    ap (λ r. at_length 0 (on_file r (λ (f : FileInfo). Makes (with_writer (tree_of S) f.inode client number) (File f)))) (opened_file t none (modes.Write number stamp) client id file is kind other S agrees)
        ∙ ap (λ (i : ℕ). Makes (with_writer (tree_of S) i client number) (File file)) part.inode
        ∙ ap (λ (T : Tree). Makes T (File file)) (sym (tree_with_session S id client number stamp)),
  )

  pub opened_to_write : (asked : List Asked) → asked ≡ [] → IsInRange file
      → u ≡ record t { writes = set_write (spelled_key (keys.Session id client number)) (Some (spelled_session (record { stamp = stamp }))) t.writes }
      → IsNodeStep (modes.Write number stamp) client id t u (steps.Commit (File file) asked)
  unfolding spelled_value
  opened_to_write asked empty fits after kind other C =
      puts_done C (λ T. file_row_at (At id kind)) (λ T. opens_at (modes.Write number stamp) client T (At id kind)) t u (File file) asked (puts)
      (λ S good agrees. subst (AreRead t.reads) (sym (file_area id kind other)) (is.read.seen, tt)) (are_puts C)
      (after ∙ ap (λ ws. record t { writes = set_write (spelled_key (keys.Session id client number)) (Some (spelled_session (record { stamp = stamp }))) ws }) none)
      (file_fits file fits) empty (makes C kind other)
