-- The walk of a path over the tree: where it ends, and what it looks at.
use Rattle.std.specs.Prelude.{ℕ, zero, suc, ◌==◌, ◌||◌, not, Bool, true, false, if◌then◌else◌, List, [], ◌∷◌, ◌++◌, Option, Some, None, Result, Ok, Err}
use Rattle.std.specs.FinMap.{get}
use Rattle.fs_base.specs.declared.code.Code.{Code}
use Rattle.fs_base.specs.declared.code.Code.TheVariants.{NotFound, NotDir, LinkLoop}
use Rattle.fs_base.specs.declared.kind.Kind.TheVariants as kinds
use Rattle.fs_base.specs.declared.limits.TheConstants.{LINKS_FOLLOWED}
use Rattle.fs_base.specs.declared.path.Path.{Path}
use Rattle.fs_base.specs.Paths.{path_of}
use Rattle.tree_model.specs.declared.node.Node.{Node}
use Rattle.tree_model.specs.declared.node.NodePart.{NodePart}
use Rattle.tree_model.specs.declared.node.NodePart.TheVariants.{Dir, File, Link}
use Rattle.tree_model.specs.declared.walk.WalkEnd.{WalkEnd}
use Rattle.tree_model.specs.declared.walk.WalkEnd.TheVariants.{Follow, NoFollow, Parent}
use Rattle.tree_model.specs.declared.walk.Walked.{Walked}
use Rattle.tree_model.specs.declared.walk.Walked.TheVariants.{At, AtParent, NoName, Stopped}
use Rattle.tree_model.specs.Maps.{is_end}
use Rattle.tree_model.specs.Tree.{Tree}

-- what a walk looks at: the inode of an id, or the entry of a name in a directory
pub data Visit : Type 0 where
  Inode : (id : ℕ) → Visit
  Entry : (dir : ℕ) → (name : List ℕ) → Visit

-- Where a walk ends, and what it looks at on the way, in order: by one recursion, so that what a walk over
-- the store may read is read off it.
pub record Trip : Type 0 where
  pub end : Walked
  pub visits : List Visit

abbrev pub stay : Walked → Trip
stay walked = record { end = walked; visits = [] }

abbrev pub visiting : Visit → Trip → Trip
visiting visit trip = record { end = trip.end; visits = visit ∷ trip.visits }

-- at a directory, where no name is left
abbrev pub ends_at : WalkEnd → ℕ → Walked
ends_at Parent here = NoName here
ends_at Follow here = At here kinds.Dir
ends_at NoFollow here = At here kinds.Dir

-- at a file: a name after it wants a directory
abbrev pub at_file : ℕ → List (List ℕ) → Walked
at_file id names = if is_end names then At id kinds.File else Stopped NotDir

-- the last name, where the call wants its directory
abbrev pub is_last_of_parent : WalkEnd → List (List ℕ) → Bool
is_last_of_parent Parent [] = true
is_last_of_parent _ _ = false

-- the last name, where the call doesn't follow a link
abbrev pub is_last_unfollowed : WalkEnd → List (List ℕ) → Bool
is_last_unfollowed NoFollow [] = true
is_last_unfollowed _ _ = false

-- what lies behind a link: its id, the directory that holds it, its target, and the names after it
abbrev pub Behind : Type 0
Behind = ℕ → ℕ → List ℕ → List (List ℕ) → Trip

-- The target's names come before those that are left; the walk goes on from the root or from the link's
-- directory. No call makes a link to what is no path; that such a one ends the walk gives every tree an
-- answer.
abbrev pub on_target : (List (List ℕ) → ℕ → Trip) → ℕ → List (List ℕ) → Result Path Code → Trip
on_target go here names (Err code) = stay (Stopped code)
on_target go here names (Ok path) = go (path.names ++ names) (if path.absolute then 0 else here)

abbrev pub at_link : Behind → WalkEnd → ℕ → ℕ → List ℕ → List (List ℕ) → Trip
at_link follow end here id target names =
    if is_last_unfollowed end names then stay (At id kinds.Link) else follow id here target names

-- on from an entry's target; below is the walk of the names after it from there
abbrev pub at_part : Behind → WalkEnd → ℕ → ℕ → List (List ℕ) → Trip → NodePart → Trip
at_part follow end here id names below (Dir layout) = below
at_part follow end here id names below (File length truncs layout hint) = stay (at_file id names)
at_part follow end here id names below (Link target) = at_link follow end here id target names

abbrev pub at_node : Behind → WalkEnd → ℕ → ℕ → List (List ℕ) → Trip → Option Node → Trip
at_node follow end here id names below None = stay (Stopped NotFound)
at_node follow end here id names below (Some node) = at_part follow end here id names below node.part

abbrev pub at_entry : Behind → Tree → WalkEnd → ℕ → List (List ℕ) → (ℕ → Trip) → Option ℕ → Trip
at_entry follow T end here names below None = stay (Stopped NotFound)
at_entry follow T end here names below (Some id) =
    at_node follow end here id names (below id) (get T.nodes id)

-- The names from directory here on; follow goes on behind a link. An entry's node tells whether the walk goes
-- on, so of inodes only a base and the links are looked at.
abbrev pub down : Behind → Tree → WalkEnd → List (List ℕ) → ℕ → Trip
down follow T end [] here = stay (ends_at end here)
down follow T end (name ∷ names) here =
    if is_last_of_parent end names
    then stay (AtParent here name)
    else visiting (Entry here name)
    (at_entry follow T end here names (down follow T end names) (get T.entries (here, name)))

-- with so many links that may still be followed; a link that may not is refused at its entry
abbrev pub walk : ℕ → Tree → WalkEnd → List (List ℕ) → ℕ → Trip
walk zero T end = down (λ _ _ _ _. stay (Stopped LinkLoop)) T end
walk (suc left) T end =
    down (λ id here target names. visiting (Inode id)
    (on_target (walk left T end) here names (path_of target))) T end

-- from a base that has still to be looked at
abbrev pub if_dir : NodePart → Trip → Trip
if_dir (Dir layout) trip = trip
if_dir (File length truncs layout hint) trip = stay (Stopped NotDir)
if_dir (Link target) trip = stay (Stopped NotDir)

abbrev pub from_base : Option Node → Trip → Trip
from_base None trip = stay (Stopped NotFound)
from_base (Some node) trip = if_dir node.part trip

-- a call that wants the directory of a last name, and a path that has no name
abbrev pub lacks_name : WalkEnd → List (List ℕ) → Bool
lacks_name Parent [] = true
lacks_name _ _ = false

-- a base besides the root is looked at, unless it is clear without it that there is no name
abbrev pub looks_at_base : ℕ → WalkEnd → List (List ℕ) → Bool
looks_at_base here end names = not (here == 0 || lacks_name end names)

-- a path that isn't absolute starts at a base
abbrev pub travel : Tree → ℕ → Path → WalkEnd → Trip
travel T base path end =
    let here = if path.absolute then 0 else base in
    if looks_at_base here end path.names
    then visiting (Inode here) (from_base (get T.nodes here) (walk LINKS_FOLLOWED T end path.names here))
    else walk LINKS_FOLLOWED T end path.names here

abbrev pub resolve : Tree → ℕ → Path → WalkEnd → Walked
resolve T base path end = (travel T base path end).end
