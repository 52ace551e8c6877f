-- Rows of bytes are those of one tree at most.
use Rattle.std.proofs.Common.{◌≡◌, List, sym, ap, ◌∙◌}
use Rattle.fs_base.specs.Config.{Settings}
use Rattle.fs_base.specs.declared.row.Row.{Row}
use Rattle.tree_model.specs.Tree.{Tree}
use Rattle.row_tree.specs.HasTree.{HasTree}
use Rattle.row_tree.specs.Spelling.{OneValueEach}
use Rattle.row_tree.specs.TreeOf.{tree_of}
use Rattle.row_tree.proofs.SpellingLaws.{same_typed_rows}

pub one_tree : OneValueEach → (C : Settings) (R : List Row) (T U : Tree) → HasTree C R T → HasTree C R U → T ≡ U
one_tree law C R T U a b = sym a.3 ∙ (ap tree_of (same_typed_rows law R a.0 b.0 a.1 b.1) ∙ b.3)
