use Rattle.std.proofs.Common.{◌≡◌, ◌==◌, not}
use Rattle.std.specs.List.{list_all}
use Rattle.std.specs.FinMap.{entries}
use Rattle.tree_model.proofs.tree.Tree.is_empty_dir.Given as goal

-- what is left passes exactly where all does
abbrev pub invariant-loop-key : goal.invariant-loop-key
invariant-loop-key l = list_all (λ e. not (e.0.0 == l.dir)) l.key-iterator ≡ list_all (λ e. not (e.0.0 == l.dir)) (entries l.self.tree.entries)
