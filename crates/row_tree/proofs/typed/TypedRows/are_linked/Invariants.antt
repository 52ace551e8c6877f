use Rattle.std.proofs.Common.{◌≡◌, ◌==◌, ◌||◌}
use Rattle.row_tree.specs.Deciding.{is_linked}
use Rattle.std.specs.List.{list_all}
use Rattle.std.specs.FinMap.{entries}
use Rattle.row_tree.proofs.typed.TypedRows.are_linked.Given as goal

-- what is left passes exactly where all does
abbrev pub invariant-loop-id : goal.invariant-loop-id
invariant-loop-id l = list_all (λ e. (e.0 == 0) || is_linked l.self e.0 e.1) l.id-iterator ≡ list_all (λ e. (e.0 == 0) || is_linked l.self e.0 e.1) (entries l.self.inodes)
