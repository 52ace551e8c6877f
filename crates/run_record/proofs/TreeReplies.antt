-- What the tree replies: neither of conflicts nor of a full journal.
use Rattle.std.proofs.Common.{◌≡◌, ℕ, zero, suc, ◌+◌, ◌<◌, ◌==◌, Bool, true, false, cond, nat_lt, List, [], ◌∷◌, ◌++◌, sym, ap, subst, ◌∙◌}
use Rattle.std.specs.Prelude.{Option, Some, None, Result, Ok, Err, if◌then◌else◌, unwrap_or, slice_index}
use Rattle.std.specs.FinMap.{get, insert}
use Rattle.std.specs.Option.{ok_or}
use Rattle.fs_base.specs.Config.{Settings}
use Rattle.fs_base.specs.Gives.{◌>>=◌, each_from}
use Rattle.fs_base.specs.Names.{is_dot_dot, is_name, name_of}
use Rattle.fs_base.specs.Paths.{components, is_path_text, component_name, names_of, path_of}
use Rattle.fs_base.specs.declared.call.Call.{Call}
use Rattle.fs_base.specs.declared.call.Call.TheVariants as calls
use Rattle.fs_base.specs.declared.call.Changes.{Changes}
use Rattle.fs_base.specs.declared.call.Place.{Place}
use Rattle.fs_base.specs.declared.call.Request.{Request}
use Rattle.fs_base.specs.declared.call.Session.{Session}
use Rattle.fs_base.specs.declared.code.Code.{Code}
use Rattle.fs_base.specs.declared.code.Code.TheVariants as codes
use Rattle.fs_base.specs.declared.code.Limit.TheVariants.{Inodes, Links}
use Rattle.fs_base.specs.declared.ids.ClientId.{ClientId}
use Rattle.fs_base.specs.declared.kind.Kind.TheVariants as kinds
use Rattle.fs_base.specs.declared.layout.DefaultLayout.{DefaultLayout}
use Rattle.fs_base.specs.declared.path.Path.{Path}
use Rattle.fs_base.specs.declared.reply.FileInfo.{FileInfo}
use Rattle.fs_base.specs.declared.reply.Reply.{Reply}
use Rattle.fs_base.specs.declared.reply.Reply.TheVariants as replies
use Rattle.fs_base.specs.declared.reply.Reply.TheVariants.{Attr, Done, Made, Refused}
use Rattle.tree_model.specs.declared.new_node.NewNode.{NewNode}
use Rattle.tree_model.specs.declared.node.Node.{Node}
use Rattle.tree_model.specs.declared.node.NodePart.{NodePart}
use Rattle.tree_model.specs.declared.node.NodePart.TheVariants.{Dir, File, Link}
use Rattle.tree_model.specs.declared.walk.Walked.{Walked}
use Rattle.tree_model.specs.declared.walk.Walked.TheVariants.{At, AtParent, NoName, Stopped}
use Rattle.tree_model.specs.declared.walk.WalkEnd.{WalkEnd}
use Rattle.tree_model.specs.declared.walk.WalkEnd.TheVariants.{Follow, NoFollow, Parent}
use Rattle.tree_model.specs.Attributes.{attributes_of, changed, count_to}
use Rattle.tree_model.specs.Calls.{apply, effect, effect_of, is_query, settle}
use Rattle.tree_model.specs.Creating.{id_of, admits_given, part_for, with_child, add_numbered, add_in, add_child, unless_there, make_at, new_dir, new_file, new_link}
use Rattle.tree_model.specs.Effects.{Effect, Leaves, Makes, Settles, at_length, on_path, refuses, settled_by}
use Rattle.tree_model.specs.Finding.{found_of, if_there, list_at, readlink_at, setattr_at, stat_at, target_of}
use Rattle.tree_model.specs.Linking.{at_name, is_empty_dir, link_at, link_in, link_to, link_under, rmdir_at, rmdir_entry, rmdir_part, unlink_at, unlink_entry, unlink_part, with_link, without_dir}
use Rattle.tree_model.specs.Maps.{is_end}
use Rattle.tree_model.specs.Moving.{moved, dir_over, other_over, move_over, goes_below, move_to, move_in, move_under, move_at, move_entry, rename_at, have_names}
use Rattle.tree_model.specs.Sessions.{extend_file, file_of, file_there, has_session, hint_over, on_file, opened_at, opened_node, session_file, with_hint, with_writer}
use Rattle.tree_model.specs.Tree.{Tree, next_at, node_with}
use Rattle.tree_model.specs.Walk.{Behind, Entry, Inode, Trip, at_entry, at_file, at_node, at_part, down, ends_at, from_base, is_last_of_parent, is_last_unfollowed, looks_at_base, on_target, resolve, stay, visiting, walk}
use Rattle.tree_model.proofs.ApplyLaws.{IsNewNumber, apply_new, apply_query}
use Rattle.run_record.specs.Outcomes.{AreAttempts, MayTell}
use Rattle.run_record.specs.Right.{IsNoRefusal}

abbrev IsTreeCode : Code → Type 0
IsTreeCode codes.Conflict = ⊥
IsTreeCode codes.StoreFull = ⊥
IsTreeCode code = Unit {0}

abbrev pub IsTreeReply : Reply → Type 0
IsTreeReply (Refused code) = IsTreeCode code
IsTreeReply reply = Unit {0}

-- ---- words

abbrev ReadsWell : {X : Type 0} → Result X Code → Type 0
ReadsWell (Ok x) = Unit {0}
ReadsWell (Err code) = IsTreeCode code

name_of_well : (bytes : List ℕ) → ReadsWell (name_of bytes)
unfolding name_of
name_of_well bytes = by_test (is_name bytes)
  where
    by_test : (b : Bool) → ReadsWell {X = List ℕ} (cond b (Ok bytes) (Err codes.BadName))
    by_test true = tt
    by_test false = tt

name_at_well : (part : List ℕ) → ReadsWell (component_name part)
name_at_well part = by_dots (is_dot_dot part)
  where
    by_dots : (b : Bool) → ReadsWell {X = List ℕ} (cond b (Err codes.BadPath) (name_of part))
    by_dots true = tt
    by_dots false = name_of_well part

both_well : (r : Result (List ℕ) Code) (rest : Result (List (List ℕ)) Code) → ReadsWell r → ReadsWell rest → ReadsWell {X = List (List ℕ)} (r >>= λ y. rest >>= λ ys. Ok (y ∷ ys))
both_well (Err code) rest h k = h
both_well (Ok y) (Err code) h k = k
both_well (Ok y) (Ok ys) h k = tt

each_well : (parts : List (List ℕ)) (i : ℕ) → ReadsWell (each_from (λ _ part. component_name part) i parts)
unfolding each_from
each_well [] i = tt
each_well (part ∷ parts) i = both_well (component_name part) (each_from (λ _ p. component_name p) (i + 1) parts) (name_at_well part) (each_well parts (i + 1))

names_well : (absolute : Bool) (r : Result (List (List ℕ)) Code) → ReadsWell r → ReadsWell {X = Path} (r >>= λ names. Ok (record { absolute = absolute; names = names }))
names_well absolute (Err code) h = h
names_well absolute (Ok names) h = tt

path_well : (text : List ℕ) → ReadsWell (path_of text)
unfolding path_of
path_well text = by_test (is_path_text text)
  where
    by_test : (b : Bool) → ReadsWell {X = Path} (cond b (names_of (components text) >>= λ names. Ok (record { absolute = slice_index text 0 == 47; names = names })) (Err codes.BadPath))
    by_test true = names_well (slice_index text 0 == 47) (names_of (components text)) (each_well (components text) 0)
    by_test false = tt

-- ---- walks

abbrev EndsWell : Walked → Type 0
EndsWell (Stopped code) = IsTreeCode code
EndsWell walked = Unit {0}

at_file_well : (id : ℕ) (names : List (List ℕ)) → EndsWell (at_file id names)
at_file_well id names = by_test (is_end names)
  where
    by_test : (b : Bool) → EndsWell (cond b (At id kinds.File) (Stopped codes.NotDir))
    by_test true = tt
    by_test false = tt

ends_at_well : (end : WalkEnd) (here : ℕ) → EndsWell (ends_at end here)
ends_at_well Parent here = tt
ends_at_well Follow here = tt
ends_at_well NoFollow here = tt

module _ (follow : Behind) (T : Tree) (end : WalkEnd) (follows : (id here : ℕ) (target : List ℕ) (names : List (List ℕ)) → EndsWell (follow id here target names).end) where
  module _ (here : ℕ) (names : List (List ℕ)) where
    link_well : (id : ℕ) (target : List ℕ) (b : Bool) → EndsWell (cond b (stay (At id kinds.Link)) (follow id here target names)).end
    link_well id target true = tt
    link_well id target false = follows id here target names

    part_well : (id : ℕ) (below : Trip) → EndsWell below.end → (part : NodePart) → EndsWell (at_part follow end here id names below part).end
    part_well id below h (Dir layout) = h
    part_well id below h (File length truncs layout hint) = at_file_well id names
    part_well id below h (Link target) = link_well id target (is_last_unfollowed end names)

    node_well : (id : ℕ) (below : Trip) → EndsWell below.end → (o : Option Node) → EndsWell (at_node follow end here id names below o).end
    node_well id below h None = tt
    node_well id below h (Some node) = part_well id below h node.part

    entry_well : (below : ℕ → Trip) → ((id : ℕ) → EndsWell (below id).end) → (o : Option ℕ) → EndsWell (at_entry follow T end here names below o).end
    entry_well below h None = tt
    entry_well below h (Some id) = node_well id (below id) (h id) (get T.nodes id)

  parent_well : (here : ℕ) (name : List ℕ) (trip : Trip) → EndsWell trip.end → (b : Bool) → EndsWell (cond b (stay (AtParent here name)) (visiting (Entry here name) trip)).end
  parent_well here name trip h true = tt
  parent_well here name trip h false = h

  down_well : (names : List (List ℕ)) (here : ℕ) → EndsWell (down follow T end names here).end
  down_well [] here = ends_at_well end here
  down_well (name ∷ names) here =
      parent_well here name (at_entry follow T end here names (down follow T end names) (get T.entries (here, name)))
      (entry_well here names (down follow T end names) (down_well names) (get T.entries (here, name))) (is_last_of_parent end names)

target_leads : (go : List (List ℕ) → ℕ → Trip) → ((names : List (List ℕ)) (here : ℕ) → EndsWell (go names here).end) → (here : ℕ) (names : List (List ℕ)) (r : Result Path Code) → ReadsWell r → EndsWell (on_target go here names r).end
target_leads go h here names (Err code) w = w
target_leads go h here names (Ok path) w = h (path.names ++ names) (if path.absolute then 0 else here)

walk_well : (left : ℕ) (T : Tree) (end : WalkEnd) (names : List (List ℕ)) (here : ℕ) → EndsWell (walk left T end names here).end
walk_well zero T end names here = down_well (λ _ _ _ _. stay (Stopped codes.LinkLoop)) T end (λ _ _ _ _. tt) names here
walk_well (suc left) T end names here =
    down_well (λ id from target more. visiting (Inode id) (on_target (walk left T end) from more (path_of target))) T end
    (λ id from target more. target_leads (walk left T end) (walk_well left T end) from more (path_of target) (path_well target)) names here

from_base_well : (o : Option Node) (trip : Trip) → EndsWell trip.end → EndsWell (from_base o trip).end
from_base_well None trip h = tt
from_base_well (Some node) trip h = in_part node.part
  where
    in_part : (part : NodePart) → EndsWell (from_base (Some (record node { part = part })) trip).end
    in_part (Dir layout) = h
    in_part (File length truncs layout hint) = tt
    in_part (Link target) = tt

base_well : (b : Bool) (id : ℕ) (o : Option Node) (trip : Trip) → EndsWell trip.end → EndsWell (cond b (visiting (Inode id) (from_base o trip)) trip).end
base_well true id o trip h = from_base_well o trip h
base_well false id o trip h = h

resolve_well : (T : Tree) (base : ℕ) (path : Path) (end : WalkEnd) → EndsWell (resolve T base path end)
resolve_well T base path end =
    let here : ℕ = if path.absolute then 0 else base in
    base_well (looks_at_base here end path.names) here (get T.nodes here) (walk 10 T end path.names here) (walk_well 10 T end path.names here)

-- ---- effects

-- what makes a tree is no refusal
abbrev RepliesWell : Effect → Type 0
RepliesWell (Leaves reply) = IsTreeReply reply
RepliesWell (Makes tree reply) = IsNoRefusal reply
RepliesWell (Settles tree) = Unit {0}

well_at : (settled : ℕ) (f : Effect) → RepliesWell f → RepliesWell (at_length settled f)
well_at settled (Leaves reply) h = h
well_at settled (Makes tree reply) h = h
well_at settled (Settles tree) h = tt

by_path : (text : List ℕ) (act : Path → Effect) → ((path : Path) → RepliesWell (act path)) → RepliesWell (on_path (path_of text) act)
by_path text act h = read (path_of text) (path_well text)
  where
    read : (r : Result Path Code) → ReadsWell r → RepliesWell (on_path r act)
    read (Err code) w = w
    read (Ok path) w = h path

if_there_well : (o : Option Node) (act : Node → Effect) → ((node : Node) → RepliesWell (act node)) → RepliesWell (if_there o act)
if_there_well None act h = tt
if_there_well (Some node) act h = h node

found_well : (walked : Walked) → EndsWell walked → IsTreeReply (found_of walked)
found_well (At id kind) h = tt
found_well (Stopped code) h = h
found_well (AtParent id name) h = tt
found_well (NoName id) h = tt

stat_well : (T : Tree) (walked : Walked) → EndsWell walked → RepliesWell (stat_at T walked)
stat_well T (At id kind) h = if_there_well (get T.nodes id) (λ node. Leaves (Attr (attributes_of T id node))) (λ node. tt)
stat_well T (Stopped code) h = h
stat_well T (AtParent id name) h = tt
stat_well T (NoName id) h = tt

list_well : (T : Tree) (walked : Walked) → EndsWell walked → RepliesWell (list_at T walked)
list_well T (At id kinds.Dir) h = tt
list_well T (At id kinds.File) h = tt
list_well T (At id kinds.Link) h = tt
list_well T (Stopped code) h = h
list_well T (AtParent id name) h = tt
list_well T (NoName id) h = tt

target_well : (part : NodePart) → RepliesWell (target_of part)
target_well (Dir layout) = tt
target_well (File length truncs layout hint) = tt
target_well (Link target) = tt

readlink_well : (T : Tree) (walked : Walked) → EndsWell walked → RepliesWell (readlink_at T walked)
readlink_well T (At id kinds.Dir) h = tt
readlink_well T (At id kinds.File) h = tt
readlink_well T (At id kinds.Link) h = if_there_well (get T.nodes id) (λ node. target_of node.part) (λ node. target_well node.part)
readlink_well T (Stopped code) h = h
readlink_well T (AtParent id name) h = tt
readlink_well T (NoName id) h = tt

setattr_well : (T : Tree) (stamp : ℕ) (changes : Changes) (walked : Walked) → EndsWell walked → RepliesWell (setattr_at T stamp changes walked)
setattr_well T stamp changes (At id kind) h = if_there_well (get T.nodes id) (λ node. Makes (record T { nodes = insert T.nodes id (changed changes stamp node) }) Done) (λ node. tt)
setattr_well T stamp changes (Stopped code) h = h
setattr_well T stamp changes (AtParent id name) h = tt
setattr_well T stamp changes (NoName id) h = tt

unless_well : (o : Option ℕ) (act : Effect) → RepliesWell act → RepliesWell (unless_there o act)
unless_well None act h = h
unless_well (Some id) act h = tt

module _ (C : Settings) (T : Tree) (server stamp : ℕ) (node : NewNode) where
  numbered_well : (dir : ℕ) (name : List ℕ) (layout : DefaultLayout) → RepliesWell (add_numbered C T server stamp node dir name layout)
  numbered_well dir name layout = by_last (next_at T.next server == 4294967295)
    where
      by_last : (b : Bool) → RepliesWell (cond b (refuses (codes.AtLimit Inodes)) (Makes (with_child T server dir name (node_with node.mode stamp (part_for C node.part (id_of (next_at T.next server) server) layout))) (Made (id_of (next_at T.next server) server))))
      by_last true = tt
      by_last false = tt

  in_well : (dir : ℕ) (name : List ℕ) (part : NodePart) → RepliesWell (add_in C T server stamp node dir name part)
  in_well dir name (Dir layout) = numbered_well dir name (unwrap_or node.layout layout)
  in_well dir name (File length truncs layout hint) = tt
  in_well dir name (Link target) = tt

  child_well : (dir : ℕ) (name : List ℕ) (o : Option Node) → RepliesWell (add_child C T server stamp node dir name o)
  child_well dir name None = tt
  child_well dir name (Some parent) = in_well dir name parent.part

  make_well : (walked : Walked) → EndsWell walked → RepliesWell (make_at C T server stamp node walked)
  make_well (At id kind) h = tt
  make_well (NoName id) h = tt
  make_well (Stopped code) h = h
  make_well (AtParent dir name) h = unless_well (get T.entries (dir, name)) (add_child C T server stamp node dir name (get T.nodes dir)) (child_well dir name (get T.nodes dir))

  layout_well : (b : Bool) (walked : Walked) → EndsWell walked → RepliesWell (cond b (make_at C T server stamp node walked) (refuses codes.BadLayout))
  layout_well true walked h = make_well walked h
  layout_well false walked h = tt

-- ---- entries that come and go

module _ (T : Tree) (stamp : ℕ) where
  count_well : (V : Tree) (b : Bool) → RepliesWell (cond b (refuses (codes.AtLimit Links)) (Makes V Done))
  count_well V true = tt
  count_well V false = tt

  link_in_well : (id dir : ℕ) (name : List ℕ) (part : NodePart) → RepliesWell (link_in T stamp id dir name part)
  link_in_well id dir name (Dir layout) =
      if_there_well (get T.nodes id) (λ node. cond (count_to T id == 65535) (refuses (codes.AtLimit Links)) (Makes (with_link T stamp dir name id node) Done))
      (λ node. count_well (with_link T stamp dir name id node) (count_to T id == 65535))
  link_in_well id dir name (File length truncs layout hint) = tt
  link_in_well id dir name (Link target) = tt

  under_well : (id dir : ℕ) (name : List ℕ) (o : Option Node) → RepliesWell (link_under T stamp id dir name o)
  under_well id dir name None = tt
  under_well id dir name (Some parent) = link_in_well id dir name parent.part

  to_well : (id : ℕ) (to : Walked) → EndsWell to → RepliesWell (link_to T stamp id to)
  to_well id (At other kind) h = tt
  to_well id (NoName dir) h = tt
  to_well id (Stopped code) h = h
  to_well id (AtParent dir name) h = unless_well (get T.entries (dir, name)) (link_under T stamp id dir name (get T.nodes dir)) (under_well id dir name (get T.nodes dir))

  join_well : (from to : Walked) → EndsWell from → EndsWell to → RepliesWell (link_at T stamp from to)
  join_well (At id kinds.Dir) to h e = tt
  join_well (At id kinds.File) to h e = to_well id to e
  join_well (At id kinds.Link) to h e = to_well id to e
  join_well (Stopped code) to h e = h
  join_well (AtParent dir name) to h e = tt
  join_well (NoName dir) to h e = tt

  unlink_part_well : (dir : ℕ) (name : List ℕ) (id : ℕ) (node : Node) (part : NodePart) → RepliesWell (unlink_part T stamp dir name id node part)
  unlink_part_well dir name id node (Dir layout) = tt
  unlink_part_well dir name id node (File length truncs layout hint) = tt
  unlink_part_well dir name id node (Link target) = tt

  unlink_entry_well : (dir : ℕ) (name : List ℕ) (o : Option ℕ) → RepliesWell (unlink_entry T stamp dir name o)
  unlink_entry_well dir name None = tt
  unlink_entry_well dir name (Some id) = if_there_well (get T.nodes id) (λ node. unlink_part T stamp dir name id node node.part) (λ node. unlink_part_well dir name id node node.part)

  empty_well : (V : Tree) (b : Bool) → RepliesWell (cond b (Makes V Done) (refuses codes.NotEmpty))
  empty_well V true = tt
  empty_well V false = tt

  rmdir_part_well : (dir : ℕ) (name : List ℕ) (id : ℕ) (part : NodePart) → RepliesWell (rmdir_part T dir name id part)
  rmdir_part_well dir name id (Dir layout) = empty_well (without_dir T dir name id) (is_empty_dir T id)
  rmdir_part_well dir name id (File length truncs layout hint) = tt
  rmdir_part_well dir name id (Link target) = tt

  rmdir_entry_well : (dir : ℕ) (name : List ℕ) (o : Option ℕ) → RepliesWell (rmdir_entry T dir name o)
  rmdir_entry_well dir name None = tt
  rmdir_entry_well dir name (Some id) = if_there_well (get T.nodes id) (λ node. rmdir_part T dir name id node.part) (λ node. rmdir_part_well dir name id node.part)

  at_name_well : (walked : Walked) (act : ℕ → List ℕ → Effect) → EndsWell walked → ((dir : ℕ) (name : List ℕ) → RepliesWell (act dir name)) → RepliesWell (at_name walked act)
  at_name_well (At id kind) act h well = tt
  at_name_well (NoName dir) act h well = tt
  at_name_well (Stopped code) act h well = h
  at_name_well (AtParent dir name) act h well = well dir name

-- ---- an entry that moves

module _ (T : Tree) (stamp : ℕ) where
  refused_or : (b : Bool) (act : Effect) → RepliesWell act → RepliesWell (cond b (refuses codes.IntoItself) act)
  refused_or true act h = tt
  refused_or false act h = h

  dir_over_well : (from to : ℕ × List ℕ) (id old : ℕ) (part : NodePart) → RepliesWell (dir_over T from to id old part)
  dir_over_well from to id old (Dir layout) = empty_well T stamp (moved (without_dir T to.0 to.1 old) from to id) (is_empty_dir T old)
  dir_over_well from to id old (File length truncs layout hint) = tt
  dir_over_well from to id old (Link target) = tt

  other_over_well : (from to : ℕ × List ℕ) (id old : ℕ) (node : Node) (part : NodePart) → RepliesWell (other_over T stamp from to id old node part)
  other_over_well from to id old node (Dir layout) = tt
  other_over_well from to id old node (File length truncs layout hint) = tt
  other_over_well from to id old node (Link target) = tt

  over_well : (from to : ℕ × List ℕ) (id old : ℕ) (part : NodePart) (node : Node) → RepliesWell (move_over T stamp from to id old part node)
  over_well from to id old (Dir layout) node = dir_over_well from to id old node.part
  over_well from to id old (File length truncs layout hint) node = other_over_well from to id old node node.part
  over_well from to id old (Link target) node = other_over_well from to id old node node.part

  move_well : (from to : ℕ × List ℕ) (id : ℕ) (part : NodePart) (o : Option ℕ) → RepliesWell (move_to T stamp from to id part o)
  move_well from to id part None = refused_or (goes_below T id part to.0) (Makes (moved T from to id) Done) tt
  move_well from to id part (Some old) = by_same (old == id)
    where
      by_same : (b : Bool) → RepliesWell (cond b (Makes T Done) (cond (goes_below T id part to.0) (refuses codes.IntoItself) (if_there (get T.nodes old) (move_over T stamp from to id old part))))
      by_same true = tt
      by_same false =
          refused_or (goes_below T id part to.0) (if_there (get T.nodes old) (move_over T stamp from to id old part))
          (if_there_well (get T.nodes old) (move_over T stamp from to id old part) (over_well from to id old part))

  move_in_well : (from to : ℕ × List ℕ) (id : ℕ) (part parent : NodePart) → RepliesWell (move_in T stamp from to id part parent)
  move_in_well from to id part (Dir layout) = move_well from to id part (get T.entries to)
  move_in_well from to id part (File length truncs layout hint) = tt
  move_in_well from to id part (Link target) = tt

  move_under_well : (from to : ℕ × List ℕ) (id : ℕ) (part : NodePart) (o : Option Node) → RepliesWell (move_under T stamp from to id part o)
  move_under_well from to id part None = tt
  move_under_well from to id part (Some parent) = move_in_well from to id part parent.part

  move_at_well : (from : ℕ × List ℕ) (id : ℕ) (part : NodePart) (to : Walked) → EndsWell to → RepliesWell (move_at T stamp from id part to)
  move_at_well from id part to h = at_name_well T stamp to (λ dir name. move_under T stamp from (dir, name) id part (get T.nodes dir)) h (λ dir name. move_under_well from (dir, name) id part (get T.nodes dir))

  move_entry_well : (from : ℕ × List ℕ) (to : Walked) (o : Option ℕ) → EndsWell to → RepliesWell (move_entry T stamp from to o)
  move_entry_well from to None h = tt
  move_entry_well from to (Some id) h = if_there_well (get T.nodes id) (λ node. move_at T stamp from id node.part to) (λ node. move_at_well from id node.part to h)

  rename_at_well : (from to : Walked) → EndsWell from → EndsWell to → RepliesWell (rename_at T stamp from to)
  rename_at_well from to h e = at_name_well T stamp from (λ dir name. move_entry T stamp (dir, name) to (get T.entries (dir, name))) h (λ dir name. move_entry_well (dir, name) to (get T.entries (dir, name)) e)

  both_named_well : (a b : Bool) (act : Effect) → RepliesWell act → RepliesWell (cond a (refuses codes.IsRoot) (cond b (refuses codes.IsRoot) act))
  both_named_well true b act h = tt
  both_named_well false true act h = tt
  both_named_well false false act h = h

-- ---- open, openr, fstat and extend

abbrev FoundWell : Result FileInfo Code → Type 0
FoundWell (Err code) = IsTreeReply (Refused code)
FoundWell (Ok file) = Unit {0}

on_file_well : (r : Result FileInfo Code) (act : FileInfo → Effect) → FoundWell r → ((file : FileInfo) → RepliesWell (act file)) → RepliesWell (on_file r act)
on_file_well (Err code) act w h = w
on_file_well (Ok file) act w h = h file

file_well : (id : ℕ) (code : Code) → IsTreeReply (Refused code) → (part : NodePart) → FoundWell (ok_or (file_of id part) code)
file_well id code w (Dir layout) = w
file_well id code w (File length truncs layout hint) = tt
file_well id code w (Link target) = w

opened_node_well : (id : ℕ) (o : Option Node) → FoundWell (opened_node id o)
opened_node_well id None = tt
opened_node_well id (Some node) = file_well id codes.IsDir tt node.part

opened_well : (T : Tree) (walked : Walked) → EndsWell walked → FoundWell (opened_at T walked)
opened_well T (At id kinds.Dir) h = tt
opened_well T (At id kinds.File) h = opened_node_well id (get T.nodes id)
opened_well T (At id kinds.Link) h = opened_node_well id (get T.nodes id)
opened_well T (Stopped code) h = h
opened_well T (AtParent id name) h = tt
opened_well T (NoName id) h = tt

open_well : (T : Tree) (place : Place) (act : FileInfo → Effect) → ((file : FileInfo) → RepliesWell (act file))
    → RepliesWell (on_path (path_of place.text) (λ path. on_file (opened_at T (resolve T place.base path Follow)) act))
open_well T place act h =
    by_path place.text (λ path. on_file (opened_at T (resolve T place.base path Follow)) act)
    (λ path. on_file_well (opened_at T (resolve T place.base path Follow)) act (opened_well T (resolve T place.base path Follow) (resolve_well T place.base path Follow)) h)

session_well : (T : Tree) (client : ClientId) (session : Session) → FoundWell (session_file T client session)
session_well T client session = held (has_session T client session)
  where
    there : (o : Option Node) → FoundWell (file_there session.inode o)
    there None = tt
    there (Some node) = file_well session.inode codes.NoSession tt node.part

    held : (b : Bool) → FoundWell (cond b (file_there session.inode (get T.nodes session.inode)) (Err codes.NoSession))
    held true = there (get T.nodes session.inode)
    held false = tt

extend_well : (T : Tree) (place : ℕ) (file : FileInfo) → RepliesWell (extend_file T place file)
extend_well T place file = within (nat_lt place file.layout.stripe)
  where
    within : (b : Bool) → RepliesWell (cond b (Makes (with_hint T file.inode (hint_over file.layout.stripe place file.hint) (get T.nodes file.inode)) (replies.Hint (hint_over file.layout.stripe place file.hint))) (refuses codes.ShortHint))
    within true = tt
    within false = tt

call_well : (C : Settings) (T : Tree) (q : Request) (call : Call) → RepliesWell (effect_of C T q call)
call_well C T q (calls.Lookup place) = by_path place.text (λ path. Leaves (found_of (resolve T place.base path NoFollow))) (λ path. found_well (resolve T place.base path NoFollow) (resolve_well T place.base path NoFollow))
call_well C T q (calls.Stat place) = by_path place.text (λ path. stat_at T (resolve T place.base path Follow)) (λ path. stat_well T (resolve T place.base path Follow) (resolve_well T place.base path Follow))
call_well C T q (calls.List place) = by_path place.text (λ path. list_at T (resolve T place.base path Follow)) (λ path. list_well T (resolve T place.base path Follow) (resolve_well T place.base path Follow))
call_well C T q (calls.Readlink place) = by_path place.text (λ path. readlink_at T (resolve T place.base path NoFollow)) (λ path. readlink_well T (resolve T place.base path NoFollow) (resolve_well T place.base path NoFollow))
call_well C T q (calls.Openr place) = open_well T place (λ file. Leaves (replies.File file)) (λ file. tt)
call_well C T q (calls.Fstat session) = on_file_well (session_file T q.client session) (λ file. Leaves (replies.File file)) (session_well T q.client session) (λ file. tt)
call_well C T q (calls.Mkdir place mode layout) =
    by_path place.text (λ path. if admits_given C layout then make_at C T q.server q.stamp (new_dir mode layout) (resolve T place.base path Parent) else refuses codes.BadLayout)
    (λ path. layout_well C T q.server q.stamp (new_dir mode layout) (admits_given C layout) (resolve T place.base path Parent) (resolve_well T place.base path Parent))
call_well C T q (calls.Create place mode layout) =
    by_path place.text (λ path. if admits_given C layout then make_at C T q.server q.stamp (new_file mode layout) (resolve T place.base path Parent) else refuses codes.BadLayout)
    (λ path. layout_well C T q.server q.stamp (new_file mode layout) (admits_given C layout) (resolve T place.base path Parent) (resolve_well T place.base path Parent))
call_well C T q (calls.Symlink place target) =
    by_path place.text (λ path. on_path (path_of target) (λ leads. make_at C T q.server q.stamp (new_link target) (resolve T place.base path Parent)))
    (λ path. by_path target (λ leads. make_at C T q.server q.stamp (new_link target) (resolve T place.base path Parent))
    (λ leads. make_well C T q.server q.stamp (new_link target) (resolve T place.base path Parent) (resolve_well T place.base path Parent)))
call_well C T q (calls.Setattr place changes) = by_path place.text (λ path. setattr_at T q.stamp changes (resolve T place.base path Follow)) (λ path. setattr_well T q.stamp changes (resolve T place.base path Follow) (resolve_well T place.base path Follow))
call_well C T q (calls.Link from to) =
    by_path from.text (λ source. on_path (path_of to.text) (λ path. link_at T q.stamp (resolve T from.base source NoFollow) (resolve T to.base path Parent)))
    (λ source. by_path to.text (λ path. link_at T q.stamp (resolve T from.base source NoFollow) (resolve T to.base path Parent))
    (λ path. join_well T q.stamp (resolve T from.base source NoFollow) (resolve T to.base path Parent) (resolve_well T from.base source NoFollow) (resolve_well T to.base path Parent)))
call_well C T q (calls.Unlink place) =
    by_path place.text (λ path. unlink_at T q.stamp (resolve T place.base path Parent))
    (λ path. at_name_well T q.stamp (resolve T place.base path Parent) (λ dir name. unlink_entry T q.stamp dir name (get T.entries (dir, name))) (resolve_well T place.base path Parent)
    (λ dir name. unlink_entry_well T q.stamp dir name (get T.entries (dir, name))))
call_well C T q (calls.Rmdir place) =
    by_path place.text (λ path. rmdir_at T (resolve T place.base path Parent))
    (λ path. at_name_well T q.stamp (resolve T place.base path Parent) (λ dir name. rmdir_entry T dir name (get T.entries (dir, name))) (resolve_well T place.base path Parent)
    (λ dir name. rmdir_entry_well T q.stamp dir name (get T.entries (dir, name))))
call_well C T q (calls.Rename from to) =
    by_path from.text (λ source. on_path (path_of to.text) (λ path. have_names source path (rename_at T q.stamp (resolve T from.base source Parent) (resolve T to.base path Parent))))
    (λ source. by_path to.text (λ path. have_names source path (rename_at T q.stamp (resolve T from.base source Parent) (resolve T to.base path Parent)))
    (λ path. both_named_well T q.stamp (is_end source.names) (is_end path.names) (rename_at T q.stamp (resolve T from.base source Parent) (resolve T to.base path Parent))
    (rename_at_well T q.stamp (resolve T from.base source Parent) (resolve T to.base path Parent) (resolve_well T from.base source Parent) (resolve_well T to.base path Parent))))
call_well C T q (calls.Open place) = open_well T place (λ file. Makes (with_writer T file.inode q.client q.number) (replies.File file)) (λ file. tt)
call_well C T q (calls.Extend session place) = on_file_well (session_file T q.client session) (extend_file T place) (session_well T q.client session) (extend_well T place)
call_well C T q call = tt

-- ---- replies

-- an entry's is no refusal
pub made_reply : (C : Settings) (T V : Tree) (q : Request) (reply : Reply)
    → at_length (settled_by reply) (effect C T q) ≡ Makes V reply → IsNoRefusal reply
made_reply C T V q reply is = subst RepliesWell is (well_at (settled_by reply) (effect C T q) (call_well C T q q.call))

pub accepted_reply : (reply : Reply) → IsNoRefusal reply → IsTreeReply reply
accepted_reply (Refused code) h = absurd h
accepted_reply reply h = tt

settled_well : (T : Tree) (q : Request) (settled : ℕ) (reply : Reply) (f : Effect) → RepliesWell f → settle T q settled f ≡ (T, reply) → IsTreeReply reply
settled_well T q settled reply (Leaves r) h e = subst IsTreeReply (ap (λ (p : Tree × Reply). p.1) e) h
settled_well T q settled reply (Makes V r) h e = subst IsTreeReply (ap (λ (p : Tree × Reply). p.1) e) (accepted_reply r h)
settled_well T q settled reply (Settles V) h e = subst IsTreeReply (ap (λ (p : Tree × Reply). p.1) e) tt

-- a query's, and those of a call with a new number
pub query_reply : (C : Settings) (T : Tree) (q : Request) (settled : ℕ) (reply : Reply) → is_query q.call ≡ true → apply C T q settled ≡ (T, reply) → IsTreeReply reply
query_reply C T q settled reply query is = settled_well T q settled reply (effect C T q) (call_well C T q q.call) (sym (apply_query C T q settled query) ∙ is)

pub new_reply : (C : Settings) (T : Tree) (q : Request) (settled : ℕ) (reply : Reply) → IsNewNumber (get T.kept q.client.0) q.number → apply C T q settled ≡ (T, reply) → IsTreeReply reply
new_reply C T q settled reply new is = settled_well T q settled reply (effect C T q) (call_well C T q q.call) (sym (apply_new C T q settled new) ∙ is)

-- ---- what they may tell

pub may_tell : (call : Call) (reply : Reply) → IsTreeReply reply → MayTell call reply
may_tell call (Refused codes.Conflict) h = absurd h
may_tell call (Refused codes.StoreFull) h = absurd h
may_tell call reply h = tt

pub attempts_left : (attempts : ℕ) (reply : Reply) (met : ℕ) → IsTreeReply reply → met < attempts → AreAttempts attempts reply met
attempts_left attempts (Refused codes.Conflict) met h l = absurd h
attempts_left attempts reply met h l = l
