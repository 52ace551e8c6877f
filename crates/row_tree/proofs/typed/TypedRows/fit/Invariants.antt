use Rattle.std.proofs.Common.{◌≡◌}
use Rattle.row_tree.specs.Deciding.{fits_config}
use Rattle.std.specs.List.{list_all}
use Rattle.std.specs.FinMap.{entries}
use Rattle.row_tree.proofs.typed.TypedRows.fit.Given as goal

-- what is left passes exactly where all does
abbrev pub invariant-loop-id : goal.invariant-loop-id
invariant-loop-id l = list_all (λ e. fits_config l.config e.0 e.1.part) l.id-iterator ≡ list_all (λ e. fits_config l.config e.0 e.1.part) (entries l.self.inodes)
