use Rattle.std.proofs.Common.{◌≡◌, ◌&&◌}
use Rattle.row_tree.specs.Deciding.{is_doomed, is_given}
use Rattle.std.specs.List.{list_all}
use Rattle.std.specs.FinMap.{entries}
use Rattle.row_tree.proofs.typed.TypedRows.are_doomed.Given as goal

-- what is left passes exactly where all does
abbrev pub invariant-loop-id : goal.invariant-loop-id
invariant-loop-id l = list_all (λ e. is_doomed l.config l.self e.0 e.1 && is_given l.self e.0) l.id-iterator ≡ list_all (λ e. is_doomed l.config l.self e.0 e.1 && is_given l.self e.0) (entries l.self.doomed)
