-- How a call that makes a node begins, and what its steps owe where its way ends, by what is known of the rows.
use Rattle.std.proofs.Common.{◌≡◌, ℕ, ◌+◌, ◌<◌, ◌≤◌, ◌^◌, true, List, [], ◌∷◌, refl, sym, ap, subst, ◌∙◌, arith, ◌&&◌, Bool, false, cond}
use Rattle.std.specs.Prelude.{Option, Some, None, unwrap_or, IsTrue, Result, Ok, Err, is_ok}
use Rattle.std.specs.Option.{option_map}
use Rattle.std.specs.FinMap.{get, insert}
use Rattle.conflict_sets.specs.declared.sets.ReadSet.{ReadSet}
use Rattle.conflict_sets.specs.declared.sets.Write.{Write}
use Rattle.fs_base.specs.Config.{Settings, admits}
use Rattle.fs_base.specs.Names.{is_name}
use Rattle.fs_base.specs.declared.code.Code.{Code}
use Rattle.fs_base.specs.declared.code.Code.TheVariants as codes
use Rattle.fs_base.specs.declared.code.Limit.TheVariants.{Inodes}
use Rattle.fs_base.specs.declared.kind.Kind.{Kind}
use Rattle.fs_base.specs.declared.kind.Kind.TheVariants as kinds
use Rattle.fs_base.specs.declared.layout.DefaultLayout.{DefaultLayout}
use Rattle.fs_base.specs.declared.reply.Reply.TheVariants.{Made, Refused}
use Rattle.inode_record.specs.Inode.{spelled_inode}
use Rattle.inode_record.specs.declared.inode.InodePart.{InodePart}
use Rattle.inode_record.specs.declared.inode.InodeRow.{InodeRow}
use Rattle.key_schema.specs.Keys.{spelled_key}
use Rattle.key_schema.specs.declared.key.Key.{Key}
use Rattle.key_schema.specs.declared.key.Key.TheVariants as keys
use Rattle.row_records.specs.Rows.{spelled_dent, spelled_alloc}
use Rattle.row_records.specs.declared.rows.DentRow.{DentRow}
use Rattle.row_tree.specs.Steps.{with_node}
use Rattle.row_tree.specs.TreeOf.{tree_of, node_part}
use Rattle.row_tree.specs.TypedRows.{TypedRows, kind_of}
use Rattle.row_tree.specs.Values.{DentValue, InodeValue, spelled_value}
use Rattle.row_tree.specs.WellFormed.{IsWellFormed, HasKind, FitsConfig}
use Rattle.row_tree.proofs.Telling.{entry_is, node_is}
use Rattle.tree_model.specs.declared.new_node.NewPart.{NewPart}
use Rattle.tree_model.specs.declared.new_node.NewPart.TheVariants as new
use Rattle.tree_model.specs.declared.node.Node.{Node}
use Rattle.tree_model.specs.declared.walk.Walked.TheVariants.{At, AtParent, NoName, Stopped}
use Rattle.tree_model.specs.Creating.{id_of, admits_given, make_at, new_dir, new_file, new_link}
use Rattle.tree_model.specs.Effects.{Effect, Makes, at_length, refuses, on_path}
use Rattle.tree_model.specs.Tree.{Tree}
use Rattle.tree_model.specs.Walk.{Trip, stay, resolve}
use Rattle.txn_task.specs.Agreeing.{Agrees}
use Rattle.txn_task.specs.Transactions.{Transaction}
use Rattle.txn_task.specs.Wanted.{IsKeyRead, IsUnread}
use Rattle.txn_task.specs.Writes.{set_write}
use Rattle.txn_task.specs.declared.messages.Ask.TheVariants as asks
use Rattle.txn_task.specs.declared.messages.Asked.{Asked}
use Rattle.txn_task.specs.declared.messages.OpStep.TheVariants as steps
use Rattle.path_walk.specs.Areas.{Area, OneKey, AreRead, trip_areas}
use Rattle.path_walk.specs.Footprint.{child_at, in_dir, in_part, if_free, trip_from, makes, call_areas}
use Rattle.path_walk.specs.Owed.{HasRead, KeepsAreas}
use Rattle.path_walk.specs.Puts.{ArePuts, MakesPuts, put_writes, with_puts}
use Rattle.path_walk.specs.Stages.{trip_at, IsSameKind, IsFaultless}
use Rattle.path_walk.specs.Walks.{HasEnd}
use Rattle.path_walk.specs.declared.stage.Stage.{Stage}
use Rattle.path_walk.specs.declared.stage.Stage.TheVariants as stages
use Rattle.path_walk.proofs.PutLaws.{absent_changes, puts_done}
use Rattle.path_walk.proofs.NameLaws as names
use Rattle.path_walk.specs.Directories.{IsDirRead}
use Rattle.path_walk.proofs.StepLaws.{tells, from_words, or_fault, same_path}
use Rattle.path_walk.proofs.WalkLaws.{same_end}
use Rattle.op_create.specs.declared.task.CreateTask.{CreateTask}
use Rattle.op_create.specs.Create.{IsMaking, IsCreateReady, IsWalkReady, IsCreateEndStep, HasComeTo, made_at, create_areas, create_effect}
use Rattle.op_create.specs.NewRows.{node_puts, HasDefault, MayMake}
use Rattle.row_records.proofs.InRange.{entry_fits, made_fits, next_fits}
use Rattle.row_tree.specs.NewRows.{IsNewRow, IsRoom, new_entry, new_row, IsPart}
use Rattle.row_tree.proofs.Making.{chosen_fits, id_is_free, make_full, make_nowhere, make_one, make_taken}
use Rattle.row_tree.proofs.NewRowLaws.{new_row_fits, number_changes}
use Rattle.std.proofs.lemmas.Bool.{and_from, and_parts}
use Rattle.byte_fields.specs.Fields.{mode, time, optional, text, path_text, number_1}
use Rattle.fs_base.specs.Paths.{path_of}
use Rattle.fs_base.specs.declared.call.Call.{Call}
use Rattle.fs_base.specs.declared.call.Call.TheVariants as calls
use Rattle.fs_base.specs.declared.call.Place.{Place}
use Rattle.fs_base.specs.declared.call.Request.{Request}
use Rattle.fs_base.specs.declared.code.Code.TheVariants.{BadLayout}
use Rattle.fs_base.specs.declared.path.Path.{Path}
use Rattle.row_records.specs.Calls.{place, made, default_layout, call, stamped_call, is_call}
use Rattle.tree_model.specs.declared.new_node.NewNode.{NewNode}
use Rattle.tree_model.specs.declared.walk.WalkEnd.TheVariants.{Parent}
use Rattle.tree_model.specs.Calls.{effect}
use Rattle.tree_model.specs.Calls as table
use Rattle.path_walk.specs.Faults.{refusal, part_fault, layout_fault, first_fault, node_fault}
use Rattle.path_walk.specs.Requests.{IsRequest}
use Rattle.path_walk.specs.declared.stage.Stage.TheVariants.{Refused, Walking}
use Rattle.op_create.specs.Beginning.{IsMade}
use Rattle.byte_fields.proofs.InRange.{small_mode, small_time}

-- ---- what the call comes to

-- a call that makes a node, by the first fault of its words
abbrev wanted : Settings → Tree → ℕ → ℕ → NewNode → Place → Effect
wanted C T server stamp node where_to = on_path (path_of where_to.text) (λ path. or_fault (node_fault C node) (make_at C T server stamp node (resolve T where_to.base path Parent)))

by_layout : (fits : Bool) (effect : Effect) → or_fault (cond fits None (Some BadLayout)) effect ≡ cond fits effect (refuses BadLayout)
by_layout true effect = refl
by_layout false effect = refl

by_target : (r : Result Path Code) (effect : Effect) → or_fault (first_fault (refusal r) None) effect ≡ on_path r (λ path. effect)
by_target (Ok path) effect = refl
by_target (Err code) effect = refl

is_wanted : (C : Settings) (T : Tree) (q : Request) (what : Call) (where_to : Place) (node : NewNode) → IsMade what where_to node → wanted C T q.server q.stamp node where_to ≡ table.effect_of C T q what
is_wanted C T q (calls.Mkdir from mode layout) where_to node is =
    (λ i. wanted C T q.server q.stamp (is.1 i) (is.0 i))
    ∙ same_path (path_of from.text) _ _ (λ path. by_layout (admits_given C layout) (make_at C T q.server q.stamp (new_dir mode layout) (resolve T from.base path Parent)))
is_wanted C T q (calls.Create from mode layout) where_to node is =
    (λ i. wanted C T q.server q.stamp (is.1 i) (is.0 i))
    ∙ same_path (path_of from.text) _ _ (λ path. by_layout (admits_given C layout) (make_at C T q.server q.stamp (new_file mode layout) (resolve T from.base path Parent)))
is_wanted C T q (calls.Symlink from target) where_to node is =
    (λ i. wanted C T q.server q.stamp (is.1 i) (is.0 i))
    ∙ same_path (path_of from.text) _ _ (λ path. by_target (path_of target) (make_at C T q.server q.stamp (new_link target) (resolve T from.base path Parent)))
is_wanted C T q what where_to node is = absurd is

is_areas : (C : Settings) (T : Tree) (q : Request) (what : Call) (where_to : Place) (node : NewNode) → IsMade what where_to node → makes C T q.server where_to node ≡ call_areas C T q what
is_areas C T q (calls.Mkdir from m given) where_to node is = λ i. makes C T q.server (is.0 i) (is.1 i)
is_areas C T q (calls.Create from m given) where_to node is = λ i. makes C T q.server (is.0 i) (is.1 i)
is_areas C T q (calls.Symlink from target) where_to node is = λ i. makes C T q.server (is.0 i) (is.1 i)
is_areas C T q what where_to node is = absurd is

module _ (task : CreateTask) (q : Request) (where_to : Place) (server : task.server ≡ q.server) (stamp : task.stamp ≡ q.stamp) (is : IsMade q.call where_to task.node)
    (starts : (T : Tree) → trip_at task.stage T ≡ trip_from where_to Parent (node_fault task.config task.node) T) where
  pub begins_so : (T : Tree) → create_effect task T ≡ effect task.config T q
  begins_so T =
      ap (λ (trip : Trip). make_at task.config T task.server task.stamp task.node trip.end) (starts T)
      ∙ from_words (made_at task T) (λ code. refl) T where_to.base Parent (path_of where_to.text) (node_fault task.config task.node)
      ∙ (λ i. wanted task.config T (server i) (stamp i) task.node where_to)
      ∙ is_wanted task.config T q q.call where_to task.node is

  pub begins_areas : (T : Tree) → create_areas task T ≡ call_areas task.config T q q.call
  begins_areas T =
      ap (λ (trip : Trip). trip_areas trip (child_at task.server T)) (starts T)
      ∙ (λ i. makes task.config T (server i) where_to task.node)
      ∙ is_areas task.config T q q.call where_to task.node is

-- ---- numbers in their ranges

no_fault : (first second : Option Code) → first_fault first second ≡ None → (first ≡ None) × (second ≡ None)
no_fault None second none = (refl, none)
no_fault (Some code) second none = cc

layout_told : (fits : Bool) → cond fits None (Some BadLayout) ≡ None → fits ≡ true
layout_told true none = refl
layout_told false none = cc

path_told : (r : Result Path Code) → refusal r ≡ None → is_ok r ≡ true
path_told (Ok path) none = refl
path_told (Err code) none = cc

-- the target is a text that a call may have
abbrev IsTarget : NewPart → Type 0
IsTarget new.Dir = Unit {0}
IsTarget new.File = Unit {0}
IsTarget (new.Link target) = text.fits target ≡ true

part_told : (part : NewPart) → IsTarget part → part_fault part ≡ None → IsPart part
unfolding path_text
part_told new.Dir ok none = tt
part_told new.File ok none = tt
part_told (new.Link target) ok none = and_from (text.fits target) (is_ok (path_of target)) ok (path_told (path_of target) none)

walk_ready : (task : CreateTask) (stage : Stage) → IsTarget task.node.part → IsFaultless (node_fault task.config task.node) stage → IsWalkReady task.config task.node stage
walk_ready task (Refused code) ok clear = tt
walk_ready task (Walking walk) ok clear =
    let none = no_fault (part_fault task.node.part) (layout_fault task.config task.node.layout) clear in
    record { layout = layout_told (admits_given task.config task.node.layout) none.1; part = part_told task.node.part ok none.0 }

small_stamp : (stamp : ℕ) (what : Call) → IsTrue (is_call (stamp, what)) → stamp < 2 ^ 53
unfolding stamped_call
small_stamp stamp what fits = small_time stamp (and_parts (time.fits stamp) (call.fits what) fits).0

record IsModeAndTarget (node : NewNode) : Type 0 where
  pub mode_small : node.mode < 4096
  pub target_is : IsTarget node.part

node_told : (node made_as : NewNode) → node ≡ made_as → made_as.mode < 4096 → IsTarget made_as.part → IsModeAndTarget node
node_told node made_as is small target = subst IsModeAndTarget (sym is) (record { mode_small = small; target_is = target })

made_told : (from : Place) (m : ℕ) (layout : Option DefaultLayout) → made.fits (from, (m, layout)) ≡ true → m < 4096
unfolding made
made_told from m layout fits = small_mode m (and_parts (mode.fits m) ((optional default_layout).fits layout) (and_parts (place.fits from) (mode.fits m && (optional default_layout).fits layout) fits).1).0

call_told : (stamp : ℕ) (what : Call) (where_to : Place) (node : NewNode) → IsTrue (is_call (stamp, what)) → IsMade what where_to node → IsModeAndTarget node
unfolding stamped_call call number_1
call_told stamp (calls.Mkdir from m layout) where_to node fits is = node_told node (new_dir m layout) is.1 (made_told from m layout (and_parts (time.fits stamp) (made.fits (from, (m, layout))) fits).1) tt
call_told stamp (calls.Create from m layout) where_to node fits is = node_told node (new_file m layout) is.1 (made_told from m layout (and_parts (time.fits stamp) (made.fits (from, (m, layout))) fits).1) tt
call_told stamp (calls.Symlink from target) where_to node fits is =
    node_told node (new_link target) is.1 (omega arith) (and_parts (place.fits from) (text.fits target) (and_parts (time.fits stamp) (place.fits from && text.fits target) fits).1).1
call_told stamp what where_to node fits is = absurd is

pub begins_ready : (task : CreateTask) (q : Request) (where_to : Place) → IsRequest task.config q → task.config.servers ≤ 16 → task.server ≡ q.server → task.stamp ≡ q.stamp → IsMade q.call where_to task.node → IsFaultless (node_fault task.config task.node) task.stage → IsCreateReady task
begins_ready task q where_to valid few server stamp is clear =
    let told = call_told q.stamp q.call where_to task.node valid.call is in
    let less = valid.server in
    (omega arith, told.mode_small, subst (λ n. n < 2 ^ 53) (sym stamp) (small_stamp q.stamp q.call valid.call), walk_ready task task.stage told.target_is clear)

-- a task goes on with its words
pub ready_on : (task : CreateTask) (next : Stage) → IsCreateReady task → IsSameKind task.stage next → IsCreateReady (record task { stage = next })
ready_on task next ready same = (ready.0, ready.1, ready.2, by task.stage next same ready.3)
  where
    by : (old next : Stage) → IsSameKind old next → IsWalkReady task.config task.node old → IsWalkReady task.config task.node next
    by (stages.Refused code) (stages.Refused other) h walking = walking
    by (stages.Walking walk) (stages.Walking other) h walking = walking
    by old next h walking = absurd h

abbrev with_next : CreateTask → ℕ → List Write → List Write
with_next task number writes = set_write (spelled_key (keys.Alloc task.server)) (Some (spelled_alloc (record { next = number + 1 }))) writes

-- the three puts, one after another
pub puts_made : (task : CreateTask) (dir : ℕ) (name : List ℕ) (layout : DefaultLayout) (number id : ℕ) (t a b u : Transaction) (row : InodeRow) (kind : Kind) → t.writes ≡ [] → id ≡ id_of number task.server
    → row ≡ new_row task.config task.node task.stamp id dir layout → kind ≡ kind_of row.part → a ≡ record t { writes = set_write (spelled_key (keys.Inode id)) (Some (spelled_inode row)) t.writes }
    → b ≡ record a { writes = set_write (spelled_key (keys.Dent dir name)) (Some (spelled_dent (record { inode = id; kind = kind }))) a.writes }
    → u ≡ record b { writes = set_write (spelled_key (keys.Alloc task.server)) (Some (spelled_alloc (record { next = number + 1 }))) b.writes } → u ≡ record t { writes = put_writes (node_puts task dir name layout number) }
unfolding spelled_value
puts_made task dir name layout number id t a b u row kind none id_is row_is kind_is first second third =
    third
    ∙ ap (λ (x : Transaction). record x { writes = with_next task number x.writes }) (second ∙ ap (λ (x : Transaction). record x { writes = set_write (spelled_key (keys.Dent dir name)) (Some (spelled_dent (record { inode = id; kind = kind }))) x.writes }) first)
    ∙ (λ i. record t { writes = with_next task number (set_write (spelled_key (keys.Dent dir name)) (Some (spelled_dent (record { inode = id_is i; kind = new_kind i }))) (set_write (spelled_key (keys.Inode (id_is i))) (Some (spelled_inode (new_is i))) (none i))) })
  where
    new_is : row ≡ new_row task.config task.node task.stamp (id_of number task.server) dir layout
    new_is = row_is ∙ ap (λ x. new_row task.config task.node task.stamp x dir layout) id_is

    new_kind : kind ≡ kind_of (new_row task.config task.node task.stamp (id_of number task.server) dir layout).part
    new_kind = kind_is ∙ ap (λ (r : InodeRow). kind_of r.part) new_is

-- ---- where the way comes to no free name

module _ (task : CreateTask) (t : Transaction) (none : t.writes ≡ []) where
  pub at_node : (id : ℕ) (kind : Kind)
      → IsCreateEndStep task (At id kind) t t (steps.Reply (Refused codes.Exists))
  at_node id kind = tells task.config (λ T. child_at task.server T (At id kind)) (λ T. made_at task T (At id kind)) t none (Refused codes.Exists) (λ S good agrees. tt) (λ S good agrees. refl)

  pub no_name : (id : ℕ) → IsCreateEndStep task (NoName id) t t (steps.Reply (Refused codes.Exists))
  no_name id = tells task.config (λ T. child_at task.server T (NoName id)) (λ T. made_at task T (NoName id)) t none (Refused codes.Exists) (λ S good agrees. tt) (λ S good agrees. refl)

  pub stopped : (code : Code) → IsCreateEndStep task (Stopped code) t t (steps.Reply (Refused code))
  stopped code = tells task.config (λ T. child_at task.server T (Stopped code)) (λ T. made_at task T (Stopped code)) t none (Refused code) (λ S good agrees. tt) (λ S good agrees. refl)

-- a way that ends before a name has passed the words
pub has_come : (task : CreateTask) (reads : ReadSet) (dir : ℕ) (name : List ℕ) → IsCreateReady task → HasEnd (trip_at task.stage) reads (AtParent dir name) → HasComeTo task reads
has_come task reads dir name ready end S good agrees = by task.stage ready.3 (same_end (trip_at task.stage) (λ T. stay (AtParent dir name)) reads end task.config S good agrees)
  where
    by : (stage : Stage) → IsWalkReady task.config task.node stage → AtParent dir name ≡ (trip_at stage (tree_of S)).end → IsMaking task.config task.node
    by (stages.Refused code) h e = absurd (cc)
    by (stages.Walking walk) h e = h

module _ (task : CreateTask) (dir : ℕ) (name : List ℕ) where
  abbrev areas : Tree → List Area
  areas T = child_at task.server T (AtParent dir name)

  abbrev outcome : Tree → Effect
  outcome T = made_at task T (AtParent dir name)

  -- a directory with a default
  is_dir : (reads : ReadSet) (default : DefaultLayout) → HasDefault reads dir default → IsDirRead reads dir
  is_dir reads default has = record { row = has.row; is_dir = ap kind_of has.is_dir; seen = has.seen; there = has.there }

  module _ (t : Transaction) (none : t.writes ≡ []) where
    pub asks_dir : (key : Key) → (key ≡ keys.Inode dir) × IsUnread t.reads (keys.Inode dir) → IsCreateEndStep task (AtParent dir name) t t (steps.Ask (asks.Get key))
    asks_dir key unread = names.asks_dir task.config (keys.Alloc task.server) outcome dir name t none key unread

    pub nowhere : IsKeyRead t.reads (keys.Inode dir) → ((C : Settings) (S : TypedRows) → IsWellFormed C S → Agrees S t.reads → HasKind S dir kinds.Dir → ⊥) → IsCreateEndStep task (AtParent dir name) t t (steps.Reply (Refused codes.NotDir))
    nowhere read not_dir =
        names.nowhere task.config (keys.Alloc task.server) outcome dir name t none read (not_dir task.config) (Refused codes.NotDir)
        (λ S good agrees. make_nowhere task.config S good task.server task.stamp task.node dir name (not_dir task.config S good agrees))

  module _ (t : Transaction) (none : t.writes ≡ []) (default : DefaultLayout) (has : HasDefault t.reads dir default) where
    pub asks_name : (key : Key) → (key ≡ keys.Dent dir name) × IsUnread t.reads (keys.Dent dir name) → IsCreateEndStep task (AtParent dir name) t t (steps.Ask (asks.Get key))
    asks_name key unread = names.asks_name task.config (keys.Alloc task.server) outcome dir name t none (is_dir t.reads default has) key unread

    pub taken : (e : DentRow) → IsKeyRead t.reads (keys.Dent dir name) → ((S : TypedRows) → Agrees S t.reads → get S.dents (dir, name) ≡ Some e) → IsCreateEndStep task (AtParent dir name) t t (steps.Reply (Refused codes.Exists))
    taken e read is =
        names.taken task.config (keys.Alloc task.server) outcome dir name t none (is_dir t.reads default has) e read is (Refused codes.Exists)
        (λ S good agrees. make_taken task.config S good task.server task.stamp task.node dir name e (is S agrees))

    pub asks_next : (key : Key) → IsKeyRead t.reads (keys.Dent dir name) → ((S : TypedRows) → Agrees S t.reads → get S.dents (dir, name) ≡ None) → (key ≡ keys.Alloc task.server) × IsUnread t.reads (keys.Alloc task.server)
        → IsCreateEndStep task (AtParent dir name) t t (steps.Ask (asks.Get key))
    asks_next key read free unread = names.asks_last task.config (keys.Alloc task.server) outcome dir name t none (is_dir t.reads default has) key read free unread

  -- ---- all was read

  module _ (reads : ReadSet) (default : DefaultLayout) (number : ℕ) (may : MayMake task reads dir name default number) where
    abbrev layout : DefaultLayout
    layout = unwrap_or task.node.layout default

    abbrev id : ℕ
    id = id_of number task.server

    abbrev row : InodeRow
    row = new_row task.config task.node task.stamp (id_of number task.server) dir (unwrap_or task.node.layout default)

    all_read : HasRead task.config areas reads
    all_read = names.all_read task.config (keys.Alloc task.server) outcome dir name reads (is_dir reads default may.in_dir) may.seen_name may.free may.seen_next

    room : (S : TypedRows) → Agrees S reads → IsRoom S task.server dir name default number
    room S agrees =
        let found = may.in_dir in
        record { parent = found.parent; row = found.row; there = found.there S agrees; is_dir = found.is_dir; free = may.free S agrees; next = may.next S agrees }

    full_made : 4294967295 ≤ number → (S : TypedRows) → IsWellFormed task.config S → Agrees S reads → outcome (tree_of S) ≡ refuses (codes.AtLimit Inodes)
    full_made full S good agrees = make_full task.config S good task.server task.stamp task.node dir name default number (room S agrees) full

    module _ (ready : IsCreateReady task) (come : HasComeTo task reads) (below : number < 4294967295) (few : task.config.chains ≤ 256) (small : dir < 2 ^ 36) (named : IsTrue (is_name name)) where
      id_small : id_of number task.server < 2 ^ 36
      id_small = let server = ready.0 in omega arith

      admitted : (S : TypedRows) → IsWellFormed task.config S → Agrees S reads → IsTrue (admits task.config (unwrap_or task.node.layout default))
      admitted S good agrees =
          let found = may.in_dir in
          chosen_fits task.config task.node.layout default (come S good agrees).layout (subst (FitsConfig task.config dir) found.is_dir (good.fits dir found.row (found.there S agrees)))

      in_range : (S : TypedRows) → IsWellFormed task.config S → Agrees S reads → IsNewRow task.config task.node task.stamp (id_of number task.server) dir (unwrap_or task.node.layout default)
      in_range S good agrees = record { mode_small = ready.1; stamp_small = ready.2; part_is = (come S good agrees).part; id_small = id_small; dir_small = small; admitted = admitted S good agrees; few_chains = few }

      is_free : (S : TypedRows) → IsWellFormed task.config S → Agrees S reads → get S.inodes (id_of number task.server) ≡ None
      is_free S good agrees = id_is_free task.config S good task.server task.stamp task.node dir name default number (room S agrees) below ready.0 (admitted S good agrees)

      puts_are : ArePuts task.config reads (node_puts task dir name (layout) number)
      puts_are = (
        record {
          valid = ready.0;
          no_kept = refl;
          changes = λ S good agrees. ((refl, next_fits (number + 1) (omega arith) (omega arith)), number_changes S task.server number (may.next S agrees));
        },
        (
          record {
            valid = (small, named);
            no_kept = refl;
            changes = λ S good agrees. ((refl, entry_fits id (kind_of (row).part) id_small), absent_changes S (keys.Dent dir name) (DentValue (new_entry id row)) (ap (option_map DentValue) (may.free S agrees)));
          },
          (
            record {
              valid = id_small;
              no_kept = refl;
              changes = λ S good agrees. ((refl, new_row_fits task.config task.node task.stamp id dir (layout) (in_range S good agrees)), absent_changes S (keys.Inode id) (InodeValue row) (ap (option_map InodeValue) (is_free S good agrees)));
            },
            tt,
          ),
        ),
      )

      abbrev node_at : TypedRows → ℕ → TypedRows
      node_at S k = record S {
        inodes = insert S.inodes (id_of k task.server) row;
        dents = insert S.dents (dir, name) (record { inode = id_of k task.server; kind = kind_of (row).part });
        next = insert S.next task.server (k + 1);
      }

      makes_node : MakesPuts task.config outcome reads (node_puts task dir name (layout) number) (Made (id_of number task.server))
      makes_node S good agrees =
          let one = make_one task.config S good task.server task.stamp task.node dir name default number (room S agrees) below ready.0 (admitted S good agrees) in
          let same : with_node S task.server dir name row ≡ with_puts S (node_puts task dir name (layout) number) = ap (λ k. node_at S k) (may.next S agrees) in
          (subst (IsWellFormed task.config) same one.0, ap (at_length 0) one.1 ∙ ap (λ (U : TypedRows). Makes (tree_of U) (Made (id_of number task.server))) same)

  module _ (t : Transaction) (none : t.writes ≡ []) (default : DefaultLayout) (number : ℕ) (may : MayMake task t.reads dir name default number) where
    pub full_done : 4294967295 ≤ number → IsCreateEndStep task (AtParent dir name) t t (steps.Reply (Refused (codes.AtLimit Inodes)))
    full_done full = tells task.config areas outcome t none (Refused (codes.AtLimit Inodes)) (all_read t.reads default number may) (full_made t.reads default number may full)

    pub one_done : IsCreateReady task → HasComeTo task t.reads → number < 4294967295 → task.config.chains ≤ 256 → dir < 2 ^ 36 → IsTrue (is_name name) → (u : Transaction) (given : ℕ) (asked : List Asked)
        → u ≡ record t { writes = put_writes (node_puts task dir name (unwrap_or task.node.layout default) number) } → given ≡ id_of number task.server → asked ≡ []
        → IsCreateEndStep task (AtParent dir name) t u (steps.Commit (Made given) asked)
    one_done ready come below few small named u given asked after is empty =
        subst (λ (x : ℕ). IsCreateEndStep task (AtParent dir name) t u (steps.Commit (Made x) asked)) (sym is)
        (puts_done task.config areas outcome t u (Made (id_of number task.server)) asked (node_puts task dir name (unwrap_or task.node.layout default) number) (all_read t.reads default number may)
        (puts_are t.reads default number may ready come below few small named) after
        (made_fits (id_of number task.server) (id_small t.reads default number may ready come below few small named)) empty (makes_node t.reads default number may ready come below few small named))
