-- The calls that make a node: mkdir, create and symlink.
use Rattle.std.specs.Prelude.{ℕ, ◌+◌, ◌*◌, ◌==◌, nat_lt, Bool, true, if◌then◌else◌, List, Option, Some, None, unwrap_or}
use Rattle.std.specs.FinMap.{get, insert}
use Rattle.fs_base.specs.declared.call.Place.{Place}
use Rattle.fs_base.specs.declared.code.Code.TheVariants as codes
use Rattle.fs_base.specs.declared.code.Limit.TheVariants.{Inodes}
use Rattle.fs_base.specs.declared.layout.DefaultLayout.{DefaultLayout}
use Rattle.fs_base.specs.declared.reply.Reply.TheVariants.{Made}
use Rattle.fs_base.specs.Config.{Settings, admits, layout_at}
use Rattle.fs_base.specs.Paths.{path_of}
use Rattle.fs_base.specs.declared.limits.TheConstants.{LAST_NUMBER}
use Rattle.tree_model.specs.declared.new_node.NewNode.{NewNode}
use Rattle.tree_model.specs.declared.new_node.NewPart.{NewPart}
use Rattle.tree_model.specs.declared.new_node.NewPart.TheVariants as new
use Rattle.tree_model.specs.declared.node.Node.{Node}
use Rattle.tree_model.specs.declared.node.NodePart.{NodePart}
use Rattle.tree_model.specs.declared.node.NodePart.TheVariants.{Dir, File, Link}
use Rattle.tree_model.specs.declared.walk.WalkEnd.TheVariants.{Parent}
use Rattle.tree_model.specs.declared.walk.Walked.{Walked}
use Rattle.tree_model.specs.declared.walk.Walked.TheVariants.{At, AtParent, NoName, Stopped}
use Rattle.tree_model.specs.Effects.{Effect, Makes, refuses, on_path}
use Rattle.tree_model.specs.Tree.{Tree, next_at, node_with}
use Rattle.tree_model.specs.Walk.{resolve}

-- the number-th inode of a server
abbrev pub id_of : ℕ → ℕ → ℕ
id_of number server = 16 * number + server

-- a given layout is looked at before the tree
abbrev pub admits_given : Settings → Option DefaultLayout → Bool
admits_given C None = true
admits_given C (Some given) = admits C given

-- how many places of a new file's layout are in use
abbrev pub first_hint : ℕ → ℕ
first_hint stripe = if nat_lt stripe 16 then stripe else 16

-- what the new inode of an id is, by a layout
abbrev pub part_for : Settings → NewPart → ℕ → DefaultLayout → NodePart
part_for C new.Dir id layout = Dir layout
part_for C new.File id layout = File 0 0 (layout_at C id layout) (first_hint layout.stripe)
part_for C (new.Link target) id layout = Link target

-- the node with the server's next number, and the entry that leads to it
abbrev pub with_child : Tree → ℕ → ℕ → List ℕ → Node → Tree
with_child T server dir name node =
    let number = next_at T.next server in
    record T {
      nodes = insert T.nodes (id_of number server) node;
      entries = insert T.entries (dir, name) (id_of number server);
      next = insert T.next server (number + 1);
    }

-- the greatest number is never given out
abbrev pub add_numbered : Settings → Tree → ℕ → ℕ → NewNode → ℕ → List ℕ → DefaultLayout → Effect
add_numbered C T server stamp node dir name layout =
    let id = id_of (next_at T.next server) server in
    if next_at T.next server == LAST_NUMBER
    then refuses (codes.AtLimit Inodes)
    else Makes (with_child T server dir name (node_with node.mode stamp (part_for C node.part id layout)))
    (Made id)

-- the given layout, else the directory's default
abbrev pub add_in : Settings → Tree → ℕ → ℕ → NewNode → ℕ → List ℕ → NodePart → Effect
add_in C T server stamp node dir name (Dir layout) =
    add_numbered C T server stamp node dir name (unwrap_or node.layout layout)
add_in C T server stamp node dir name (File length truncs layout hint) = refuses codes.NotDir
add_in C T server stamp node dir name (Link target) = refuses codes.NotDir

abbrev pub add_child : Settings → Tree → ℕ → ℕ → NewNode → ℕ → List ℕ → Option Node → Effect
add_child C T server stamp node dir name None = refuses codes.NotDir
add_child C T server stamp node dir name (Some parent) = add_in C T server stamp node dir name parent.part

abbrev pub unless_there : Option ℕ → Effect → Effect
unless_there None effect = effect
unless_there (Some id) effect = refuses codes.Exists

-- a path without a name says Exists, as does a name that is taken
abbrev pub make_at : Settings → Tree → ℕ → ℕ → NewNode → Walked → Effect
make_at C T server stamp node (At id kind) = refuses codes.Exists
make_at C T server stamp node (NoName id) = refuses codes.Exists
make_at C T server stamp node (Stopped code) = refuses code
make_at C T server stamp node (AtParent dir name) =
    unless_there (get T.entries (dir, name)) (add_child C T server stamp node dir name (get T.nodes dir))

-- a layout that the configuration doesn't admit is refused before the walk
abbrev pub make : Settings → Tree → ℕ → ℕ → NewNode → Place → Effect
make C T server stamp node place = on_path (path_of place.text) (λ path.
    if admits_given C node.layout then make_at C T server stamp node (resolve T place.base path Parent)
    else refuses codes.BadLayout)

-- ---- what each call makes

abbrev pub new_dir : ℕ → Option DefaultLayout → NewNode
new_dir mode layout = record { mode = mode; layout = layout; part = new.Dir }

abbrev pub new_file : ℕ → Option DefaultLayout → NewNode
new_file mode layout = record { mode = mode; layout = layout; part = new.File }

-- the mode 511 is rwxrwxrwx
abbrev pub new_link : List ℕ → NewNode
new_link target = record { mode = 511; layout = None; part = new.Link target }

-- the target's words come right after the place's
abbrev pub symlink : Settings → Tree → ℕ → ℕ → Place → List ℕ → Effect
symlink C T server stamp place target =
    on_path (path_of place.text)
    (λ path. on_path (path_of target)
    (λ leads. make_at C T server stamp (new_link target) (resolve T place.base path Parent)))
