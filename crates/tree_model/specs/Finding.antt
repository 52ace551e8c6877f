-- The calls that find a node: lookup, stat, list, readlink and setattr, each by where its walk ends.
use Rattle.std.specs.Prelude.{ℕ, ◌==◌, cond, List, Option, Some, None}
use Rattle.std.specs.Option.{option_map}
use Rattle.std.specs.List.{filter_map}
use Rattle.std.specs.FinMap.{get, insert, entries}
use Rattle.fs_base.specs.declared.call.Changes.{Changes}
use Rattle.fs_base.specs.declared.call.Place.{Place}
use Rattle.fs_base.specs.declared.code.Code.TheVariants as codes
use Rattle.fs_base.specs.declared.kind.Kind.TheVariants as kinds
use Rattle.fs_base.specs.declared.reply.DirEntry.{DirEntry}
use Rattle.fs_base.specs.declared.reply.Reply.{Reply}
use Rattle.fs_base.specs.declared.reply.Reply.TheVariants.{Done, Found, Attr, Names, Target, Refused}
use Rattle.fs_base.specs.Paths.{path_of}
use Rattle.tree_model.specs.declared.node.Node.{Node}
use Rattle.tree_model.specs.declared.node.NodePart.{NodePart}
use Rattle.tree_model.specs.declared.node.NodePart.TheVariants.{Dir, File, Link}
use Rattle.tree_model.specs.declared.walk.WalkEnd.{WalkEnd}
use Rattle.tree_model.specs.declared.walk.WalkEnd.TheVariants.{Follow, NoFollow}
use Rattle.tree_model.specs.declared.walk.Walked.{Walked}
use Rattle.tree_model.specs.declared.walk.Walked.TheVariants.{At, AtParent, NoName, Stopped}
use Rattle.tree_model.specs.Attributes.{kind_of_part, attributes_of, changed}
use Rattle.tree_model.specs.Effects.{Effect, Leaves, Makes, refuses, on_path}
use Rattle.tree_model.specs.Tree.{Tree}
use Rattle.tree_model.specs.Walk.{resolve}

-- the walk of a place, and what the call does where it ends
abbrev pub at_end : Tree → Place → WalkEnd → (Walked → Effect) → Effect
at_end T place end effect = on_path (path_of place.text) (λ path. effect (resolve T place.base path end))

-- the node that a walk comes to; a walk that wants no parent has no other end
abbrev pub if_there : Option Node → (Node → Effect) → Effect
if_there None effect = refuses codes.NotFound
if_there (Some node) effect = effect node

abbrev pub on_node : Tree → Walked → (ℕ → Node → Effect) → Effect
on_node T (At id kind) effect = if_there (get T.nodes id) (effect id)
on_node T (Stopped code) effect = refuses code
on_node T (AtParent id name) effect = refuses codes.NotDir
on_node T (NoName id) effect = refuses codes.NotDir

-- ---- lookup

abbrev pub found_of : Walked → Reply
found_of (At id kind) = Found id kind
found_of (Stopped code) = Refused code
found_of (AtParent id name) = Refused codes.NotDir
found_of (NoName id) = Refused codes.NotDir

abbrev pub lookup : Tree → Place → Effect
lookup T place = at_end T place NoFollow (λ walked. Leaves (found_of walked))

-- ---- stat

abbrev pub stat_at : Tree → Walked → Effect
stat_at T walked = on_node T walked (λ id node. Leaves (Attr (attributes_of T id node)))

abbrev pub stat : Tree → Place → Effect
stat T place = at_end T place Follow (stat_at T)

-- ---- list

-- an entry of a directory, with the kind of the node that it leads to; one without a node, which no tree of
-- well-formed rows has, is left out
abbrev pub entry_in : Tree → ℕ → (ℕ × List ℕ) × ℕ → Option DirEntry
entry_in T dir e =
    cond (e.0.0 == dir)
    (option_map (λ (node : Node). record { name = e.0.1; inode = e.1; kind = kind_of_part node.part })
    (get T.nodes e.1)) None

-- in the order of their names' bytes
abbrev pub names_in : Tree → ℕ → List DirEntry
names_in T dir = filter_map (entry_in T dir) (entries T.entries)

abbrev pub list_at : Tree → Walked → Effect
list_at T (At id kinds.Dir) = Leaves (Names (names_in T id))
list_at T (At id kinds.File) = refuses codes.NotDir
list_at T (At id kinds.Link) = refuses codes.NotDir
list_at T (Stopped code) = refuses code
list_at T (AtParent id name) = refuses codes.NotDir
list_at T (NoName id) = refuses codes.NotDir

abbrev pub list : Tree → Place → Effect
list T place = at_end T place Follow (list_at T)

-- ---- readlink

abbrev pub target_of : NodePart → Effect
target_of (Dir layout) = refuses codes.NotLink
target_of (File length truncs layout hint) = refuses codes.NotLink
target_of (Link target) = Leaves (Target target)

abbrev pub readlink_at : Tree → Walked → Effect
readlink_at T (At id kinds.Dir) = refuses codes.NotLink
readlink_at T (At id kinds.File) = refuses codes.NotLink
readlink_at T (At id kinds.Link) = if_there (get T.nodes id) (λ node. target_of node.part)
readlink_at T (Stopped code) = refuses code
readlink_at T (AtParent id name) = refuses codes.NotDir
readlink_at T (NoName id) = refuses codes.NotDir

abbrev pub readlink : Tree → Place → Effect
readlink T place = at_end T place NoFollow (readlink_at T)

-- ---- setattr

abbrev pub setattr_at : Tree → ℕ → Changes → Walked → Effect
setattr_at T stamp changes walked =
    on_node T walked
    (λ id node. Makes (record T { nodes = insert T.nodes id (changed changes stamp node) }) Done)

abbrev pub setattr : Tree → ℕ → Place → Changes → Effect
setattr T stamp place changes = at_end T place Follow (setattr_at T stamp changes)
