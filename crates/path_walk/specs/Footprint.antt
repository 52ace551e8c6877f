-- What a call reads in a tree, in the order of its asks: the list ends where the call is decided.
use Rattle.std.specs.Prelude.{ℕ, nat_lt, ◌==◌, List, [], ◌∷◌, ◌++◌, Option, Some, None, Result, Ok, Err, if◌then◌else◌}
use Rattle.std.specs.FinMap.{get}
use Rattle.fs_base.specs.Config.{Settings}
use Rattle.fs_base.specs.declared.call.Call.{Call}
use Rattle.fs_base.specs.declared.call.Call.TheVariants as calls
use Rattle.fs_base.specs.declared.call.Place.{Place}
use Rattle.fs_base.specs.declared.call.Request.{Request}
use Rattle.fs_base.specs.declared.call.Session.{Session}
use Rattle.fs_base.specs.declared.code.Code.{Code}
use Rattle.fs_base.specs.declared.ids.ClientId.{ClientId}
use Rattle.fs_base.specs.declared.kind.Kind.{Kind}
use Rattle.fs_base.specs.declared.kind.Kind.TheVariants as kinds
use Rattle.fs_base.specs.declared.path.Path.{Path}
use Rattle.fs_base.specs.Paths.{path_of}
use Rattle.key_schema.specs.Ranges.{dir_prefix, raised}
use Rattle.key_schema.specs.declared.key.Key.{Key}
use Rattle.key_schema.specs.declared.key.Key.TheVariants as keys
use Rattle.tree_model.specs.declared.kept.KeptReply.{KeptReply}
use Rattle.tree_model.specs.declared.new_node.NewNode.{NewNode}
use Rattle.tree_model.specs.declared.node.Node.{Node}
use Rattle.tree_model.specs.declared.node.NodePart.{NodePart}
use Rattle.tree_model.specs.declared.node.NodePart.TheVariants.{Dir, File, Link}
use Rattle.tree_model.specs.declared.walk.WalkEnd.{WalkEnd}
use Rattle.tree_model.specs.declared.walk.WalkEnd.TheVariants.{Follow, NoFollow, Parent}
use Rattle.tree_model.specs.declared.walk.Walked.{Walked}
use Rattle.tree_model.specs.declared.walk.Walked.TheVariants.{At, AtParent, Stopped}
use Rattle.tree_model.specs.Attributes.{kind_of_part}
use Rattle.tree_model.specs.Calls.{is_query}
use Rattle.tree_model.specs.Creating.{new_dir, new_file, new_link}
use Rattle.tree_model.specs.Linking.{is_empty_dir}
use Rattle.tree_model.specs.Moving.{is_below}
use Rattle.tree_model.specs.Sessions.{has_session}
use Rattle.tree_model.specs.Tree.{Tree}
use Rattle.tree_model.specs.Walk.{Trip, stay, travel}
use Rattle.path_walk.specs.Areas.{Area, OneKey, FirstRow, entries, trip_areas}
use Rattle.path_walk.specs.Climbing.{climbed}
use Rattle.path_walk.specs.Faults.{move_fault, node_fault, refusal}

-- ---- the way of a call

-- words that are refused end it before it looks at anything
abbrev pub unless_fault : Option Code → Trip → Trip
unless_fault None trip = trip
unless_fault (Some code) trip = stay (Stopped code)

abbrev pub on_words : Result Path Code → (Path → Trip) → Trip
on_words (Err code) trip = stay (Stopped code)
on_words (Ok path) trip = trip path

-- the place's fault, else the call's other one, else the walk of the place
abbrev pub trip_from : Place → WalkEnd → Option Code → Tree → Trip
trip_from place end fault T =
    on_words (path_of place.text) (λ path. unless_fault fault (travel T place.base path end))

-- the way to where an entry is to come
abbrev pub way_to : Place → Tree → Trip
way_to to = trip_from to Parent None

abbrev pub along : Tree → Place → WalkEnd → Option Code → (Walked → List Area) → List Area
along T place end fault at = trip_areas (trip_from place end fault T) at

-- ---- what is read where a walk ends

abbrev pub nothing_at : Walked → List Area
nothing_at walked = []

abbrev pub inode_at : Walked → List Area
inode_at (At id kind) = OneKey (keys.Inode id) ∷ []
inode_at _ = []

abbrev pub link_row_at : Walked → List Area
link_row_at (At id kinds.Link) = OneKey (keys.Inode id) ∷ []
link_row_at _ = []

abbrev pub entries_at : Walked → List Area
entries_at (At id kinds.Dir) = entries id ∷ []
entries_at _ = []

-- more is read in a directory, and where no entry stands
abbrev pub in_part : NodePart → List Area → List Area
in_part (Dir layout) areas = areas
in_part (File length truncs layout hint) areas = []
in_part (Link target) areas = []

abbrev pub in_dir : Option Node → List Area → List Area
in_dir None areas = []
in_dir (Some node) areas = in_part node.part areas

abbrev pub if_free : Option ℕ → List Area → List Area
if_free None areas = areas
if_free (Some id) areas = []

-- the directory, the name in it, and more by what stands there
abbrev pub in_named : Tree → ℕ → List ℕ → (Option ℕ → List Area) → List Area
in_named T dir name more =
    OneKey (keys.Inode dir)
    ∷ in_dir (get T.nodes dir) (OneKey (keys.Dent dir name) ∷ more (get T.entries (dir, name)))

-- one key more where no entry stands
abbrev pub free_name_at : Key → Tree → Walked → List Area
free_name_at last T (AtParent dir name) = in_named T dir name (λ taken. if_free taken (OneKey last ∷ []))
free_name_at last T _ = []

-- that of the server's next number
abbrev pub child_at : ℕ → Tree → Walked → List Area
child_at server = free_name_at (keys.Alloc server)

abbrev pub makes : Settings → Tree → ℕ → Place → NewNode → List Area
makes C T server place node = along T place Parent (node_fault C node) (child_at server T)

-- ---- a further entry, or one less

-- what link's second walk reads, where the first has come to a node that may have more entries
abbrev pub joined_at : Tree → Place → Walked → List Area
joined_at T to (At id kinds.File) = along T to Parent None (free_name_at (keys.Inode id) T)
joined_at T to (At id kinds.Link) = along T to Parent None (free_name_at (keys.Inode id) T)
joined_at T to _ = []

-- more is read of what an entry leads to, and of what is no directory
abbrev pub if_taken : Option ℕ → (ℕ → List Area) → List Area
if_taken None at = []
if_taken (Some id) at = at id

abbrev pub beside_part : NodePart → List Area → List Area
beside_part (Dir layout) areas = []
beside_part (File length truncs layout hint) areas = areas
beside_part (Link target) areas = areas

abbrev pub unless_dir : Option Node → List Area → List Area
unless_dir None areas = []
unless_dir (Some node) areas = beside_part node.part areas

-- the entry, and the inode that it leads to
abbrev pub unlinked_at : Tree → Walked → List Area
unlinked_at T (AtParent dir name) =
    OneKey (keys.Dent dir name)
    ∷ if_taken (get T.entries (dir, name)) (λ id. unless_dir (get T.nodes id) (OneKey (keys.Inode id) ∷ []))
unlinked_at T _ = []

-- the entry, and whether one lies in the directory that it leads to
abbrev pub emptied_at : Tree → Walked → List Area
emptied_at T (AtParent dir name) =
    OneKey (keys.Dent dir name)
    ∷ if_taken (get T.entries (dir, name))
    (λ id. in_dir (get T.nodes id) (FirstRow (dir_prefix id) (raised (dir_prefix id)) ∷ []))
emptied_at T _ = []

-- ---- an entry moved

-- a directory that moves is read last, where a directory in its way turns out to be empty
abbrev pub dir_moved : Tree → ℕ → Option ℕ → List Area
dir_moved T id None = OneKey (keys.Inode id) ∷ []
dir_moved T id (Some old) =
    in_dir (get T.nodes old)
    (FirstRow (dir_prefix old) (raised (dir_prefix old))
    ∷ (if is_empty_dir T old then OneKey (keys.Inode id) ∷ [] else []))

-- of another node nothing is read but what it takes the place of
abbrev pub other_moved : Tree → Option ℕ → List Area
other_moved T None = []
other_moved T (Some old) = unless_dir (get T.nodes old) (OneKey (keys.Inode old) ∷ [])

-- a directory's way up comes first, and ends it where it would come to lie in itself
abbrev pub kind_moved : Tree → Kind → ℕ → ℕ → Option ℕ → List Area
kind_moved T kinds.Dir id dir taken =
    climbed T id dir ++ (if is_below T id dir then [] else dir_moved T id taken)
kind_moved T kinds.File id dir taken = other_moved T taken
kind_moved T kinds.Link id dir taken = other_moved T taken

abbrev pub unless_same : ℕ → Option ℕ → List Area → List Area
unless_same id None areas = areas
unless_same id (Some old) areas = if old == id then [] else areas

-- what is read once both entries are known; two names of one node stay as they are
abbrev pub moved_at : Tree → Kind → ℕ → ℕ → Option ℕ → List Area
moved_at T kind id dir taken = unless_same id taken (kind_moved T kind id dir taken)

-- where the second walk ends: the directory, and the entry there
abbrev pub placed_at : Tree → Kind → ℕ → Walked → List Area
placed_at T kind id (AtParent dir name) = in_named T dir name (moved_at T kind id dir)
placed_at T kind id _ = []

-- the second walk is that of an entry's node
abbrev pub if_node : Option Node → (Node → List Area) → List Area
if_node None at = []
if_node (Some node) at = at node

abbrev pub carried : Tree → Place → ℕ → List Area
carried T to id =
    if_node (get T.nodes id) (λ node. along T to Parent None (placed_at T (kind_of_part node.part) id))

-- where the first walk ends: the entry, and the second walk
abbrev pub renamed_at : Tree → Place → Walked → List Area
renamed_at T to (AtParent dir name) =
    OneKey (keys.Dent dir name) ∷ if_taken (get T.entries (dir, name)) (carried T to)
renamed_at T to _ = []

-- ---- write sessions

-- a directory isn't opened, so its inode isn't read
abbrev pub file_row_at : Walked → List Area
file_row_at (At id kinds.File) = OneKey (keys.Inode id) ∷ []
file_row_at (At id kinds.Link) = OneKey (keys.Inode id) ∷ []
file_row_at _ = []

-- the caller's session, and the inode of its file; number 0 is asked for as any other, and no row has it
abbrev pub session_areas : Tree → ClientId → Session → List Area
session_areas T client s =
    OneKey (keys.Session s.inode client s.number)
    ∷ (if has_session T client s then OneKey (keys.Inode s.inode) ∷ [] else [])

-- ---- the calls

abbrev pub call_areas : Settings → Tree → Request → Call → List Area
call_areas C T q (calls.Lookup place) = along T place NoFollow None nothing_at
call_areas C T q (calls.Stat place) = along T place Follow None inode_at
call_areas C T q (calls.List place) = along T place Follow None entries_at
call_areas C T q (calls.Readlink place) = along T place NoFollow None link_row_at
call_areas C T q (calls.Mkdir place mode layout) = makes C T q.server place (new_dir mode layout)
call_areas C T q (calls.Create place mode layout) = makes C T q.server place (new_file mode layout)
call_areas C T q (calls.Symlink place target) = makes C T q.server place (new_link target)
call_areas C T q (calls.Setattr place changes) = along T place Follow None inode_at
call_areas C T q (calls.Link from to) =
    along T from NoFollow (refusal (path_of to.text)) (joined_at T to)
call_areas C T q (calls.Unlink place) = along T place Parent None (unlinked_at T)
call_areas C T q (calls.Rmdir place) = along T place Parent None (emptied_at T)
call_areas C T q (calls.Rename from to) = along T from Parent (move_fault from to) (renamed_at T to)
call_areas C T q (calls.Openr place) = along T place Follow None file_row_at
call_areas C T q (calls.Open place) = along T place Follow None file_row_at
call_areas C T q (calls.Fstat session) = session_areas T q.client session
call_areas C T q (calls.Extend session place) = session_areas T q.client session
call_areas C T q _ = []

-- a kept reply whose number isn't smaller decides
abbrev pub if_new : Option KeptReply → ℕ → List Area → List Area
if_new None number areas = areas
if_new (Some kept) number areas = if nat_lt kept.number number then areas else []

-- an update reads its client's kept reply first
abbrev pub footprint : Settings → Tree → Request → List Area
footprint C T q =
    if is_query q.call
    then call_areas C T q q.call
    else OneKey (keys.Idem q.client)
    ∷ if_new (get T.kept q.client.0) q.number (call_areas C T q q.call)
