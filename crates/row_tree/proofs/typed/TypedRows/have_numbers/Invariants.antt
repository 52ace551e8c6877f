use Rattle.std.proofs.Common.{◌≡◌}
use Rattle.row_tree.specs.Deciding.{number_test}
use Rattle.std.specs.List.{list_all}
use Rattle.std.specs.FinMap.{entries}
use Rattle.row_tree.proofs.typed.TypedRows.have_numbers.Given as goal

-- what is left passes exactly where all does
abbrev pub invariant-loop-server : goal.invariant-loop-server
invariant-loop-server l = list_all (λ e. number_test e.0 e.1) l.server-iterator ≡ list_all (λ e. number_test e.0 e.1) (entries l.self.next)
