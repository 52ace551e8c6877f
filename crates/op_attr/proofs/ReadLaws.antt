-- How a task begins, and what stat, list and readlink tell where their walk has ended, by what is known of the rows.
use Rattle.std.proofs.Common.{◌≡◌, ◌≢◌, ℕ, ◌<◌, ◌^◌, List, [], ◌∷◌, map, refl, sym, ap, subst, ◌∙◌, inl, arith, ◌&&◌}
use Rattle.std.specs.Prelude.{Option, Some, None, IsTrue}
use Rattle.std.specs.FinMap.{get, insert}
use Rattle.conflict_sets.specs.declared.sets.ReadSet.{ReadSet}
use Rattle.fs_base.specs.Config.{Settings}
use Rattle.fs_base.specs.declared.call.Changes.{Changes}
use Rattle.fs_base.specs.declared.code.Code.{Code}
use Rattle.fs_base.specs.declared.code.Code.TheVariants as codes
use Rattle.fs_base.specs.declared.kind.Kind.{Kind}
use Rattle.fs_base.specs.declared.kind.Kind.TheVariants as kinds
use Rattle.fs_base.specs.declared.reply.Attributes.{Attributes}
use Rattle.fs_base.specs.declared.reply.DirEntry.{DirEntry}
use Rattle.fs_base.specs.declared.reply.Reply.{Reply}
use Rattle.fs_base.specs.declared.reply.Reply.TheVariants.{Attr, Done, Found, Names, Refused}
use Rattle.inode_record.specs.declared.inode.InodeRow.{InodeRow}
use Rattle.key_schema.specs.Ranges.{dir_prefix, raised}
use Rattle.key_schema.specs.declared.key.Key.{Key}
use Rattle.key_schema.specs.declared.key.Key.TheVariants as keys
use Rattle.row_tree.specs.Told.{attributes_at, listed_entry}
use Rattle.row_tree.specs.TreeOf.{tree_of, node_of, node_part}
use Rattle.row_tree.specs.TypedRows.{TypedRows, dir_rows}
use Rattle.row_tree.specs.WellFormed.{IsWellFormed}
use Rattle.row_tree.proofs.Telling.{node_is}
use Rattle.row_tree.proofs.Told.{attributes_are, names_are}
use Rattle.tree_model.specs.declared.node.Node.{Node}
use Rattle.tree_model.specs.declared.walk.Walked.{Walked}
use Rattle.tree_model.specs.declared.walk.Walked.TheVariants.{At, AtParent, NoName, Stopped}
use Rattle.tree_model.specs.Attributes.{attributes_of, changed}
use Rattle.tree_model.specs.Effects.{Effect, Leaves, Makes, refuses}
use Rattle.tree_model.specs.Finding.{if_there, target_of, at_end}
use Rattle.txn_task.specs.Agreeing.{Agrees}
use Rattle.txn_task.specs.Pages.{next_page, AsksPage}
use Rattle.txn_task.specs.Transactions.{Transaction}
use Rattle.txn_task.specs.Wanted.{IsKeyRead, IsUnread}
use Rattle.txn_task.specs.declared.messages.Ask.{Ask}
use Rattle.txn_task.specs.declared.messages.Ask.TheVariants as asks
use Rattle.txn_task.specs.declared.messages.OpStep.TheVariants as steps
use Rattle.path_walk.specs.Areas.{OneKey, AreRead, trip_areas}
use Rattle.path_walk.proofs.StepLaws.{tells, asks_for, asks_key, from_words}
use Rattle.op_attr.specs.declared.task.AttrCall.{AttrCall}
use Rattle.op_attr.specs.declared.task.AttrCall.TheVariants as attr
use Rattle.op_attr.specs.Attr.{at_end_of, read_at, attr_effect, attr_areas, MaySet}
use Rattle.op_attr.specs.Ending.{IsAttrEndStep}
use Rattle.std.proofs.lemmas.Bool.{and_parts}
use Rattle.byte_fields.specs.Fields.{time, number_1}
use Rattle.fs_base.specs.declared.call.Call.{Call}
use Rattle.fs_base.specs.declared.call.Call.TheVariants as calls
use Rattle.fs_base.specs.declared.call.Place.{Place}
use Rattle.fs_base.specs.declared.call.Request.{Request}
use Rattle.fs_base.specs.Paths.{path_of}
use Rattle.row_records.specs.Calls.{place, changes, call, stamped_call, is_call}
use Rattle.tree_model.specs.Calls.{effect}
use Rattle.tree_model.specs.Tree.{Tree}
use Rattle.tree_model.specs.Walk.{Trip}
use Rattle.path_walk.specs.Footprint.{along, trip_from, call_areas}
use Rattle.path_walk.specs.Stages.{trip_at}
use Rattle.op_attr.specs.declared.task.AttrTask.{AttrTask}
use Rattle.op_attr.specs.Beginning.{attr_end, IsAttrCallAt}

-- ---- what a task that has begun comes to

-- words that are refused stop the call
stops : (what : AttrCall) (T : Tree) (code : Code) → at_end_of what T (Stopped code) ≡ refuses code
stops attr.Lookup T code = refl
stops attr.Stat T code = refl
stops attr.List T code = refl
stops attr.Readlink T code = refl
stops (attr.Setattr stamp given) T code = refl

-- ---- what the call comes to

is_effect : (C : Settings) (T : Tree) (q : Request) (asked : Call) (what : AttrCall) (at : Place) → q.call ≡ asked → IsAttrCallAt q.stamp asked what at → at_end T at (attr_end what) (at_end_of what T) ≡ effect C T q
is_effect C T q asked what at is so = by asked so ∙ ap (λ x. effect C T (record q { call = x })) (sym is)
  where
    by : (asked : Call) → IsAttrCallAt q.stamp asked what at → at_end T at (attr_end what) (at_end_of what T) ≡ effect C T (record q { call = asked })
    by (calls.Lookup from) so = λ i. at_end T (so.0 i) (attr_end (so.1 i)) (at_end_of (so.1 i) T)
    by (calls.Stat from) so = λ i. at_end T (so.0 i) (attr_end (so.1 i)) (at_end_of (so.1 i) T)
    by (calls.List from) so = λ i. at_end T (so.0 i) (attr_end (so.1 i)) (at_end_of (so.1 i) T)
    by (calls.Readlink from) so = λ i. at_end T (so.0 i) (attr_end (so.1 i)) (at_end_of (so.1 i) T)
    by (calls.Setattr from given) so = λ i. at_end T (so.0 i) (attr_end (so.1 i)) (at_end_of (so.1 i) T)
    by asked so = absurd so

is_area : (C : Settings) (T : Tree) (q : Request) (asked : Call) (what : AttrCall) (at : Place) → IsAttrCallAt q.stamp asked what at → along T at (attr_end what) None (read_at what) ≡ call_areas C T q asked
is_area C T q (calls.Lookup from) what at so =
    λ i. along T (so.0 i) (attr_end (so.1 i)) None (read_at (so.1 i))
is_area C T q (calls.Stat from) what at so = λ i. along T (so.0 i) (attr_end (so.1 i)) None (read_at (so.1 i))
is_area C T q (calls.List from) what at so = λ i. along T (so.0 i) (attr_end (so.1 i)) None (read_at (so.1 i))
is_area C T q (calls.Readlink from) what at so = λ i. along T (so.0 i) (attr_end (so.1 i)) None (read_at (so.1 i))
is_area C T q (calls.Setattr from given) what at so = λ i. along T (so.0 i) (attr_end (so.1 i)) None (read_at (so.1 i))
is_area C T q asked what at so = absurd so

module _ (task : AttrTask) (q : Request) (at : Place) (is : IsAttrCallAt q.stamp q.call task.call at) (starts : (T : Tree) → trip_at task.stage T ≡ trip_from at (attr_end task.call) None T) where
  pub begins_so : (T : Tree) → attr_effect task T ≡ effect task.config T q
  begins_so T =
      ap (λ (trip : Trip). at_end_of task.call T trip.end) (starts T)
      ∙ from_words (at_end_of task.call T) (stops task.call T) T at.base (attr_end task.call) (path_of at.text) None
      ∙ is_effect task.config T q q.call task.call at refl is

  pub begins_areas : (T : Tree) → attr_areas task T ≡ call_areas task.config T q q.call
  begins_areas T = ap (λ (trip : Trip). trip_areas trip (read_at task.call)) (starts T) ∙ is_area task.config T q q.call task.call at is

-- ---- numbers in their ranges

pub begins_ready : (stamp : ℕ) (asked : Call) (what : AttrCall) (at : Place) → IsTrue (is_call (stamp, asked)) → IsAttrCallAt stamp asked what at → MaySet what
unfolding stamped_call call number_1
begins_ready stamp (calls.Lookup from) what at fits so = subst MaySet (sym so.1) tt
begins_ready stamp (calls.Stat from) what at fits so = subst MaySet (sym so.1) tt
begins_ready stamp (calls.List from) what at fits so = subst MaySet (sym so.1) tt
begins_ready stamp (calls.Readlink from) what at fits so = subst MaySet (sym so.1) tt
begins_ready stamp (calls.Setattr from given) what at fits so =
    let both = and_parts (time.fits stamp) (place.fits from && changes.fits given) fits in
    subst MaySet (sym so.1) (both.0, (and_parts (place.fits from) (changes.fits given) both.1).1)
begins_ready stamp asked what at fits so = absurd so

abbrev pub IsAbsent : ReadSet → ℕ → Type 0
IsAbsent reads id = (S : TypedRows) → Agrees S reads → get S.inodes id ≡ None

abbrev pub StandsAt : ReadSet → ℕ → InodeRow → Type 0
StandsAt reads id row = (S : TypedRows) → Agrees S reads → get S.inodes id ≡ Some row

-- what is done at a node, by the inode's row
pub nothing_at : (S : TypedRows) (id : ℕ) (f : Node → Effect) → get S.inodes id ≡ None → if_there (get (tree_of S).nodes id) f ≡ Leaves (Refused codes.NotFound)
nothing_at S id f none = ap (λ (n : Option Node). if_there n f) (node_is S id None none)

pub node_at : (S : TypedRows) (id : ℕ) (f : Node → Effect) (row : InodeRow) → get S.inodes id ≡ Some row → if_there (get (tree_of S).nodes id) f ≡ f (node_of row)
node_at S id f row is = ap (λ (n : Option Node). if_there n f) (node_is S id (Some row) is)

module _ (t : Transaction) (none : t.writes ≡ []) where
  -- a reply that all rows give which agree, where all was read
  told : (call : AttrCall) (walked : Walked) (reply : Reply) → AreRead t.reads (read_at call walked) → ((C : Settings) (S : TypedRows) → IsWellFormed C S → Agrees S t.reads → at_end_of call (tree_of S) walked ≡ Leaves reply)
      → IsAttrEndStep call walked t t (steps.Reply reply)
  told call walked reply read is C = tells C (λ T. read_at call walked) (λ T. at_end_of call T walked) t none reply (λ S good agrees. read) (is C)

  -- ---- where the walk comes to no node

  pub stopped : (call : AttrCall) (code : Code) → IsAttrEndStep call (Stopped code) t t (steps.Reply (Refused code))
  stopped attr.Lookup code = told attr.Lookup (Stopped code) (Refused code) tt (λ C S good agrees. refl)
  stopped attr.Stat code = told attr.Stat (Stopped code) (Refused code) tt (λ C S good agrees. refl)
  stopped attr.List code = told attr.List (Stopped code) (Refused code) tt (λ C S good agrees. refl)
  stopped attr.Readlink code = told attr.Readlink (Stopped code) (Refused code) tt (λ C S good agrees. refl)
  stopped (attr.Setattr stamp given) code = told (attr.Setattr stamp given) (Stopped code) (Refused code) tt (λ C S good agrees. refl)

  pub at_parent : (call : AttrCall) (id : ℕ) (name : List ℕ) → IsAttrEndStep call (AtParent id name) t t (steps.Reply (Refused codes.NotDir))
  at_parent attr.Lookup id name = told attr.Lookup (AtParent id name) (Refused codes.NotDir) tt (λ C S good agrees. refl)
  at_parent attr.Stat id name = told attr.Stat (AtParent id name) (Refused codes.NotDir) tt (λ C S good agrees. refl)
  at_parent attr.List id name = told attr.List (AtParent id name) (Refused codes.NotDir) tt (λ C S good agrees. refl)
  at_parent attr.Readlink id name = told attr.Readlink (AtParent id name) (Refused codes.NotDir) tt (λ C S good agrees. refl)
  at_parent (attr.Setattr stamp given) id name = told (attr.Setattr stamp given) (AtParent id name) (Refused codes.NotDir) tt (λ C S good agrees. refl)

  pub no_name : (call : AttrCall) (id : ℕ) → IsAttrEndStep call (NoName id) t t (steps.Reply (Refused codes.NotDir))
  no_name attr.Lookup id = told attr.Lookup (NoName id) (Refused codes.NotDir) tt (λ C S good agrees. refl)
  no_name attr.Stat id = told attr.Stat (NoName id) (Refused codes.NotDir) tt (λ C S good agrees. refl)
  no_name attr.List id = told attr.List (NoName id) (Refused codes.NotDir) tt (λ C S good agrees. refl)
  no_name attr.Readlink id = told attr.Readlink (NoName id) (Refused codes.NotDir) tt (λ C S good agrees. refl)
  no_name (attr.Setattr stamp given) id = told (attr.Setattr stamp given) (NoName id) (Refused codes.NotDir) tt (λ C S good agrees. refl)

  -- ---- at a node

  module _ (id : ℕ) where
    pub asks_inode : (call : AttrCall) (kind : Kind) (key : Key) → read_at call (At id kind) ≡ OneKey (keys.Inode id) ∷ [] → (key ≡ keys.Inode id) × IsUnread t.reads (keys.Inode id) → IsAttrEndStep call (At id kind) t t (steps.Ask (asks.Get key))
    asks_inode call kind key is unread C = asks_key C (λ T. read_at call (At id kind)) (λ T. at_end_of call T (At id kind)) t none key (keys.Inode id) (λ T. []) unread (λ S good agrees. ([], tt, is))

    pub found : (kind : Kind) → IsAttrEndStep attr.Lookup (At id kind) t t (steps.Reply (Found id kind))
    found kind = told attr.Lookup (At id kind) (Found id kind) tt (λ C S good agrees. refl)

    pub stat_nowhere : (kind : Kind) → IsKeyRead t.reads (keys.Inode id) → IsAbsent t.reads id → IsAttrEndStep attr.Stat (At id kind) t t (steps.Reply (Refused codes.NotFound))
    stat_nowhere kind read absent = told attr.Stat (At id kind) (Refused codes.NotFound) (read, tt) (λ C S good agrees. nothing_at S id (λ node. Leaves (Attr (attributes_of (tree_of S) id node))) (absent S agrees))

    pub stat_told : (kind : Kind) (row : InodeRow) (attributes : Attributes) → IsKeyRead t.reads (keys.Inode id) → StandsAt t.reads id row → attributes ≡ attributes_at id row → row.links < 2 ^ 32
        → IsAttrEndStep attr.Stat (At id kind) t t (steps.Reply (Attr attributes))
    stat_told kind row attributes read is same small =
        told attr.Stat (At id kind) (Attr attributes) (read, tt) (λ C S good agrees.
        node_at S id (λ node. Leaves (Attr (attributes_of (tree_of S) id node))) row (is S agrees)
        ∙ ap (λ (a : Attributes). Leaves (Attr a)) (attributes_are C S good id row (is S agrees) small ∙ sym same))

    pub setattr_nowhere : (kind : Kind) (stamp : ℕ) (given : Changes) → IsKeyRead t.reads (keys.Inode id) → IsAbsent t.reads id → IsAttrEndStep (attr.Setattr stamp given) (At id kind) t t (steps.Reply (Refused codes.NotFound))
    setattr_nowhere kind stamp given read absent =
        told (attr.Setattr stamp given) (At id kind) (Refused codes.NotFound) (read, tt)
        (λ C S good agrees. nothing_at S id (λ node. Makes (record (tree_of S) { nodes = insert (tree_of S).nodes id (changed given stamp node) }) Done) (absent S agrees))

    -- ---- readlink: the entry tells whether it is a link

    pub no_link : (kind : Kind) → kind ≢ kinds.Link → IsAttrEndStep attr.Readlink (At id kind) t t (steps.Reply (Refused codes.NotLink))
    no_link kinds.Dir other = told attr.Readlink (At id kinds.Dir) (Refused codes.NotLink) tt (λ C S good agrees. refl)
    no_link kinds.File other = told attr.Readlink (At id kinds.File) (Refused codes.NotLink) tt (λ C S good agrees. refl)
    no_link kinds.Link other = absurd (other refl)

    pub target_nowhere : IsKeyRead t.reads (keys.Inode id) → IsAbsent t.reads id → IsAttrEndStep attr.Readlink (At id kinds.Link) t t (steps.Reply (Refused codes.NotFound))
    target_nowhere read absent = told attr.Readlink (At id kinds.Link) (Refused codes.NotFound) (read, tt) (λ C S good agrees. nothing_at S id (λ node. target_of node.part) (absent S agrees))

    pub target_told : (row : InodeRow) (reply : Reply) → IsKeyRead t.reads (keys.Inode id) → StandsAt t.reads id row → target_of (node_part row.part) ≡ Leaves reply → IsAttrEndStep attr.Readlink (At id kinds.Link) t t (steps.Reply reply)
    target_told row reply read is same = told attr.Readlink (At id kinds.Link) reply (read, tt) (λ C S good agrees. node_at S id (λ node. target_of node.part) row (is S agrees) ∙ same)

    -- ---- list

    pub no_list : (kind : Kind) → kind ≢ kinds.Dir → IsAttrEndStep attr.List (At id kind) t t (steps.Reply (Refused codes.NotDir))
    no_list kinds.Dir other = absurd (other refl)
    no_list kinds.File other = told attr.List (At id kinds.File) (Refused codes.NotDir) tt (λ C S good agrees. refl)
    no_list kinds.Link other = told attr.List (At id kinds.Link) (Refused codes.NotDir) tt (λ C S good agrees. refl)

    pub list_asks : (ask : Ask) → AsksPage (dir_prefix id) (raised (dir_prefix id)) t.reads.ranges ask → IsAttrEndStep attr.List (At id kinds.Dir) t t (steps.Ask ask)
    list_asks ask page =
        subst (λ (a : Ask). IsAttrEndStep attr.List (At id kinds.Dir) t t (steps.Ask a)) (sym page.2)
        (λ C. asks_for C (λ T. read_at attr.List (At id kinds.Dir)) (λ T. at_end_of attr.List T (At id kinds.Dir)) t none (asks.Range page.0 (raised (dir_prefix id)) 128) (omega arith) (λ S good agrees. inl (refl, refl, page.1)))

    pub list_told : (names : List DirEntry) → next_page (raised (dir_prefix id)) (Some (dir_prefix id)) t.reads.ranges ≡ None → ((S : TypedRows) → Agrees S t.reads → names ≡ map listed_entry (dir_rows S id))
        → IsAttrEndStep attr.List (At id kinds.Dir) t t (steps.Reply (Names names))
    list_told names all is = told attr.List (At id kinds.Dir) (Names names) (all, tt) (λ C S good agrees. ap (λ (l : List DirEntry). Leaves (Names l)) (names_are C S good id ∙ sym (is S agrees)))
