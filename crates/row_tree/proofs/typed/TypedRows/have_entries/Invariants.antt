use Rattle.std.proofs.Common.{◌≡◌}
use Rattle.row_tree.specs.Deciding.{is_entry}
use Rattle.std.specs.List.{list_all}
use Rattle.std.specs.FinMap.{entries}
use Rattle.row_tree.proofs.typed.TypedRows.have_entries.Given as goal

-- what is left passes exactly where all does
abbrev pub invariant-loop-key : goal.invariant-loop-key
invariant-loop-key l = list_all (λ e. is_entry l.self e.0.0 e.1) l.key-iterator ≡ list_all (λ e. is_entry l.self e.0.0 e.1) (entries l.self.dents)
