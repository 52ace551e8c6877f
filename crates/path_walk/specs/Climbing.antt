-- What is read on the way up from a directory, to see whether it lies below another one.
use Rattle.std.specs.Prelude.{ℕ, zero, suc, ◌==◌, ◌||◌, List, [], ◌∷◌, Option, Some, None, if◌then◌else◌}
use Rattle.std.specs.FinMap.{entries, len}
use Rattle.key_schema.specs.declared.key.Key.TheVariants as keys
use Rattle.tree_model.specs.Tree.{Tree}
use Rattle.path_walk.specs.Areas.{Area, OneKey}

-- where the first of these entries that leads to the node lies
abbrev pub first_dir_of : ℕ → List ((ℕ × List ℕ) × ℕ) → Option ℕ
first_dir_of id [] = None
first_dir_of id (e ∷ es) = if e.1 == id then Some e.0.0 else first_dir_of id es

-- a tree has no parents: the directory above a node is the one with an entry that leads to it
abbrev pub above : Tree → ℕ → Option ℕ
above T id = first_dir_of id (entries T.entries)

abbrev pub from_above : Option ℕ → (ℕ → List Area) → List Area
from_above None climb = []
from_above (Some dir) climb = climb dir

-- the inode of the directory and of each one above it, nearest first, up to so many;
-- neither the source nor the root is read, and nothing behind them
abbrev pub climb : ℕ → Tree → ℕ → ℕ → List Area
climb zero T source dir = []
climb (suc left) T source dir =
    if (dir == source) || (dir == 0)
    then []
    else OneKey (keys.Inode dir) ∷ from_above (above T dir) (climb left T source)

-- no way up has more directories than there are nodes
abbrev pub climbed : Tree → ℕ → ℕ → List Area
climbed T source dir = climb (len T.nodes) T source dir
