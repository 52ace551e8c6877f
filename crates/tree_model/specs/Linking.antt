-- The calls that add an entry of a node, or take one away: link, unlink and rmdir.
use Rattle.std.specs.Prelude.{ℕ, ◌==◌, not, Bool, if◌then◌else◌, List, Option, Some, None}
use Rattle.std.specs.FinMap.{get, insert, remove}
use Rattle.fs_base.specs.Paths.{path_of}
use Rattle.fs_base.specs.declared.call.Place.{Place}
use Rattle.fs_base.specs.declared.code.Code.TheVariants as codes
use Rattle.fs_base.specs.declared.code.Limit.TheVariants.{Links}
use Rattle.fs_base.specs.declared.kind.Kind.TheVariants as kinds
use Rattle.fs_base.specs.declared.reply.Reply.TheVariants.{Done}
use Rattle.fs_base.specs.declared.limits.TheConstants.{LINK_COUNT}
use Rattle.tree_model.specs.declared.kept.Doom.TheVariants.{Waiting}
use Rattle.tree_model.specs.declared.node.Node.{Node}
use Rattle.tree_model.specs.declared.node.NodePart.{NodePart}
use Rattle.tree_model.specs.declared.node.NodePart.TheVariants.{Dir, File, Link}
use Rattle.tree_model.specs.declared.walk.WalkEnd.TheVariants.{NoFollow, Parent}
use Rattle.tree_model.specs.declared.walk.Walked.{Walked}
use Rattle.tree_model.specs.declared.walk.Walked.TheVariants.{At, AtParent, NoName, Stopped}
use Rattle.tree_model.specs.Attributes.{count_to, touched}
use Rattle.tree_model.specs.Creating.{unless_there}
use Rattle.tree_model.specs.Effects.{Effect, Makes, refuses, on_path}
use Rattle.tree_model.specs.Finding.{if_there}
use Rattle.tree_model.specs.Maps.{all_pass}
use Rattle.tree_model.specs.Tree.{Tree}
use Rattle.tree_model.specs.Walk.{resolve}

-- ---- link

-- a further entry of the node, which has the stamp as its change time
abbrev pub with_link : Tree → ℕ → ℕ → List ℕ → ℕ → Node → Tree
with_link T stamp dir name id node =
    record T { nodes = insert T.nodes id (touched stamp node); entries = insert T.entries (dir, name) id }

-- no node has more than 65,535 entries
abbrev pub link_node : Tree → ℕ → ℕ → ℕ → List ℕ → Effect
link_node T stamp id dir name =
    if_there (get T.nodes id)
    (λ node. if count_to T id == LINK_COUNT then refuses (codes.AtLimit Links)
    else Makes (with_link T stamp dir name id node) Done)

abbrev pub link_in : Tree → ℕ → ℕ → ℕ → List ℕ → NodePart → Effect
link_in T stamp id dir name (Dir layout) = link_node T stamp id dir name
link_in T stamp id dir name (File length truncs layout hint) = refuses codes.NotDir
link_in T stamp id dir name (Link target) = refuses codes.NotDir

abbrev pub link_under : Tree → ℕ → ℕ → ℕ → List ℕ → Option Node → Effect
link_under T stamp id dir name None = refuses codes.NotDir
link_under T stamp id dir name (Some parent) = link_in T stamp id dir name parent.part

-- a path without a name says Exists, as does a name that is taken
abbrev pub link_to : Tree → ℕ → ℕ → Walked → Effect
link_to T stamp id (At other kind) = refuses codes.Exists
link_to T stamp id (NoName dir) = refuses codes.Exists
link_to T stamp id (Stopped code) = refuses code
link_to T stamp id (AtParent dir name) =
    unless_there (get T.entries (dir, name)) (link_under T stamp id dir name (get T.nodes dir))

-- by where the walk of the first path ends; a directory has one entry only
abbrev pub link_at : Tree → ℕ → Walked → Walked → Effect
link_at T stamp (At id kinds.Dir) to = refuses codes.IsDir
link_at T stamp (At id kinds.File) to = link_to T stamp id to
link_at T stamp (At id kinds.Link) to = link_to T stamp id to
link_at T stamp (Stopped code) to = refuses code
link_at T stamp (AtParent dir name) to = refuses codes.NotDir
link_at T stamp (NoName dir) to = refuses codes.NotDir

-- the words of both paths come first
abbrev pub link : Tree → ℕ → Place → Place → Effect
link T stamp from to =
    on_path (path_of from.text)
    (λ source. on_path (path_of to.text)
    (λ path. link_at T stamp (resolve T from.base source NoFollow) (resolve T to.base path Parent)))

-- ---- unlink

abbrev pub without_entry : Tree → ℕ → List ℕ → Tree
without_entry T dir name = record T { entries = remove T.entries (dir, name) }

-- the node has lost an entry, and the stamp is its change time
abbrev pub with_touched : Tree → ℕ → ℕ → Node → Tree
with_touched T stamp id node = record T { nodes = insert T.nodes id (touched stamp node) }

-- a node without entries: a file waits to be deleted, and its node stays; anything else is gone
abbrev pub let_go : Tree → ℕ → ℕ → Node → NodePart → Tree
let_go T stamp id node (Dir layout) = record T { nodes = remove T.nodes id }
let_go T stamp id node (File length truncs layout hint) =
    record (with_touched T stamp id node) { doomed = insert T.doomed id Waiting }
let_go T stamp id node (Link target) = record T { nodes = remove T.nodes id }

-- what becomes of a node that has lost an entry, by the entries that are left
abbrev pub unlinked : Tree → ℕ → ℕ → Node → Tree
unlinked T stamp id node =
    if count_to T id == 0 then let_go T stamp id node node.part else with_touched T stamp id node

abbrev pub unlink_part : Tree → ℕ → ℕ → List ℕ → ℕ → Node → NodePart → Effect
unlink_part T stamp dir name id node (Dir layout) = refuses codes.IsDir
unlink_part T stamp dir name id node (File length truncs layout hint) =
    Makes (unlinked (without_entry T dir name) stamp id node) Done
unlink_part T stamp dir name id node (Link target) =
    Makes (unlinked (without_entry T dir name) stamp id node) Done

abbrev pub unlink_entry : Tree → ℕ → ℕ → List ℕ → Option ℕ → Effect
unlink_entry T stamp dir name None = refuses codes.NotFound
unlink_entry T stamp dir name (Some id) =
    if_there (get T.nodes id) (λ node. unlink_part T stamp dir name id node node.part)

-- the entry that a walk comes to; a path without a name is the root, or a directory that no name leads to
abbrev pub at_name : Walked → (ℕ → List ℕ → Effect) → Effect
at_name (At id kind) effect = refuses codes.IsRoot
at_name (NoName dir) effect = refuses codes.IsRoot
at_name (Stopped code) effect = refuses code
at_name (AtParent dir name) effect = effect dir name

abbrev pub unlink_at : Tree → ℕ → Walked → Effect
unlink_at T stamp walked =
    at_name walked (λ dir name. unlink_entry T stamp dir name (get T.entries (dir, name)))

abbrev pub unlink : Tree → ℕ → Place → Effect
unlink T stamp place =
    on_path (path_of place.text) (λ path. unlink_at T stamp (resolve T place.base path Parent))

-- ---- rmdir

-- whether no entry lies in a directory
abbrev pub is_empty_dir : Tree → ℕ → Bool
is_empty_dir T dir = all_pass (λ (key : ℕ × List ℕ) (id : ℕ). not (key.0 == dir)) T.entries

-- the directory with its entry
abbrev pub without_dir : Tree → ℕ → List ℕ → ℕ → Tree
without_dir T dir name id = record (without_entry T dir name) { nodes = remove T.nodes id }

abbrev pub rmdir_part : Tree → ℕ → List ℕ → ℕ → NodePart → Effect
rmdir_part T dir name id (Dir layout) =
    if is_empty_dir T id then Makes (without_dir T dir name id) Done else refuses codes.NotEmpty
rmdir_part T dir name id (File length truncs layout hint) = refuses codes.NotDir
rmdir_part T dir name id (Link target) = refuses codes.NotDir

abbrev pub rmdir_entry : Tree → ℕ → List ℕ → Option ℕ → Effect
rmdir_entry T dir name None = refuses codes.NotFound
rmdir_entry T dir name (Some id) = if_there (get T.nodes id) (λ node. rmdir_part T dir name id node.part)

abbrev pub rmdir_at : Tree → Walked → Effect
rmdir_at T walked = at_name walked (λ dir name. rmdir_entry T dir name (get T.entries (dir, name)))

abbrev pub rmdir : Tree → Place → Effect
rmdir T place = on_path (path_of place.text) (λ path. rmdir_at T (resolve T place.base path Parent))
