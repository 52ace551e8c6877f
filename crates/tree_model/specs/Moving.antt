-- The call that moves an entry: rename.
use Rattle.std.specs.Prelude.{ℕ, zero, suc, ◌==◌, ◌&&◌, Bool, true, false, if◌then◌else◌, List, Option, Some, None}
use Rattle.std.specs.List.{list_any}
use Rattle.std.specs.FinMap.{entries, get, insert, len, remove}
use Rattle.fs_base.specs.Paths.{path_of}
use Rattle.fs_base.specs.declared.call.Place.{Place}
use Rattle.fs_base.specs.declared.code.Code.TheVariants as codes
use Rattle.fs_base.specs.declared.path.Path.{Path}
use Rattle.fs_base.specs.declared.reply.Reply.TheVariants.{Done}
use Rattle.tree_model.specs.declared.node.Node.{Node}
use Rattle.tree_model.specs.declared.node.NodePart.{NodePart}
use Rattle.tree_model.specs.declared.node.NodePart.TheVariants.{Dir, File, Link}
use Rattle.tree_model.specs.declared.walk.WalkEnd.TheVariants.{Parent}
use Rattle.tree_model.specs.declared.walk.Walked.{Walked}
use Rattle.tree_model.specs.Effects.{Effect, Makes, refuses, on_path}
use Rattle.tree_model.specs.Finding.{if_there}
use Rattle.tree_model.specs.Linking.{at_name, is_empty_dir, unlinked, without_dir, without_entry}
use Rattle.tree_model.specs.Maps.{is_end}
use Rattle.tree_model.specs.Tree.{Tree}
use Rattle.tree_model.specs.Walk.{resolve}

-- ---- below

-- whether b is a, or is reached from a by going down so many entries at most
abbrev pub reaches : Tree → ℕ → ℕ → ℕ → Bool
reaches T zero b a = a == b
reaches T (suc depth) b a =
    if a == b then true else list_any (λ e. (e.0.0 == a) && reaches T depth b e.1) (entries T.entries)

-- no way down is longer than there are nodes
abbrev pub is_below : Tree → ℕ → ℕ → Bool
is_below T a b = reaches T (len T.nodes) b a

-- ---- what the move makes

-- the entry leads to its node from another place
abbrev pub moved : Tree → ℕ × List ℕ → ℕ × List ℕ → ℕ → Tree
moved T from to id = record T { entries = insert (remove T.entries from) to id }

-- a directory takes the place of an empty one alone
abbrev pub dir_over : Tree → ℕ × List ℕ → ℕ × List ℕ → ℕ → ℕ → NodePart → Effect
dir_over T from to id old (Dir layout) =
    if is_empty_dir T old then Makes (moved (without_dir T to.0 to.1 old) from to id) Done
    else refuses codes.NotEmpty
dir_over T from to id old (File length truncs layout hint) = refuses codes.NotDir
dir_over T from to id old (Link target) = refuses codes.NotDir

-- a file or link takes that of a file or link, which is unlinked
abbrev pub other_over : Tree → ℕ → ℕ × List ℕ → ℕ × List ℕ → ℕ → ℕ → Node → NodePart → Effect
other_over T stamp from to id old node (Dir layout) = refuses codes.IsDir
other_over T stamp from to id old node (File length truncs layout hint) =
    Makes (moved (unlinked (without_entry T to.0 to.1) stamp old node) from to id) Done
other_over T stamp from to id old node (Link target) =
    Makes (moved (unlinked (without_entry T to.0 to.1) stamp old node) from to id) Done

abbrev pub move_over : Tree → ℕ → ℕ × List ℕ → ℕ × List ℕ → ℕ → ℕ → NodePart → Node → Effect
move_over T stamp from to id old (Dir layout) node = dir_over T from to id old node.part
move_over T stamp from to id old (File length truncs layout hint) node =
    other_over T stamp from to id old node node.part
move_over T stamp from to id old (Link target) node = other_over T stamp from to id old node node.part

-- ---- where it is refused

-- whether a directory would come to lie in itself, or below
abbrev pub goes_below : Tree → ℕ → NodePart → ℕ → Bool
goes_below T id (Dir layout) dir = is_below T id dir
goes_below T id (File length truncs layout hint) dir = false
goes_below T id (Link target) dir = false

-- two names of one node stay as they are
abbrev pub move_to : Tree → ℕ → ℕ × List ℕ → ℕ × List ℕ → ℕ → NodePart → Option ℕ → Effect
move_to T stamp from to id part None =
    if goes_below T id part to.0 then refuses codes.IntoItself else Makes (moved T from to id) Done
move_to T stamp from to id part (Some old) =
    if old == id
    then Makes T Done
    else (if goes_below T id part to.0 then refuses codes.IntoItself
    else if_there (get T.nodes old) (move_over T stamp from to id old part))

abbrev pub move_in : Tree → ℕ → ℕ × List ℕ → ℕ × List ℕ → ℕ → NodePart → NodePart → Effect
move_in T stamp from to id part (Dir layout) = move_to T stamp from to id part (get T.entries to)
move_in T stamp from to id part (File length truncs layout hint) = refuses codes.NotDir
move_in T stamp from to id part (Link target) = refuses codes.NotDir

abbrev pub move_under : Tree → ℕ → ℕ × List ℕ → ℕ × List ℕ → ℕ → NodePart → Option Node → Effect
move_under T stamp from to id part None = refuses codes.NotDir
move_under T stamp from to id part (Some parent) = move_in T stamp from to id part parent.part

-- by where the walk of the second path ends
abbrev pub move_at : Tree → ℕ → ℕ × List ℕ → ℕ → NodePart → Walked → Effect
move_at T stamp from id part to =
    at_name to (λ dir name. move_under T stamp from (dir, name) id part (get T.nodes dir))

abbrev pub move_entry : Tree → ℕ → ℕ × List ℕ → Walked → Option ℕ → Effect
move_entry T stamp from to None = refuses codes.NotFound
move_entry T stamp from to (Some id) =
    if_there (get T.nodes id) (λ node. move_at T stamp from id node.part to)

abbrev pub rename_at : Tree → ℕ → Walked → Walked → Effect
rename_at T stamp from to =
    at_name from (λ dir name. move_entry T stamp (dir, name) to (get T.entries (dir, name)))

-- both paths have a name; that is looked at before either is walked
abbrev pub have_names : Path → Path → Effect → Effect
have_names source path effect =
    if is_end source.names then refuses codes.IsRoot
    else (if is_end path.names then refuses codes.IsRoot else effect)

-- the words of both paths come first
abbrev pub rename : Tree → ℕ → Place → Place → Effect
rename T stamp from to =
    on_path (path_of from.text) (λ source. on_path (path_of to.text)
    (λ path. have_names source path
    (rename_at T stamp (resolve T from.base source Parent) (resolve T to.base path Parent))))
