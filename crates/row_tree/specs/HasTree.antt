-- Rows of bytes that are those of a tree, and that tree.
use Rattle.std.specs.Prelude.{◌≡◌, List}
use Rattle.fs_base.specs.Config.{Settings}
use Rattle.fs_base.specs.declared.row.Row.{Row}
use Rattle.tree_model.specs.Tree.{Tree}
use Rattle.row_tree.specs.Spelling.{Spells}
use Rattle.row_tree.specs.TreeOf.{tree_of}
use Rattle.row_tree.specs.TypedRows.{TypedRows}
use Rattle.row_tree.specs.WellFormed.{IsWellFormed}

-- the bytes spell well-formed rows, whose tree this is
abbrev pub HasTree : Settings → List Row → Tree → Type 0
HasTree C R T = (S : TypedRows) × Spells R S × IsWellFormed C S × (tree_of S ≡ T)

abbrev pub AreWellFormed : Settings → List Row → Type 0
AreWellFormed C R = (T : Tree) × HasTree C R T
