use Rattle.std.proofs.Common.{◌≡◌, not, ◌||◌}
use Rattle.fs_base.specs.declared.kind.Kind.TheVariants as kinds
use Rattle.row_tree.specs.TypedRows.{kind_of}
use Rattle.row_tree.specs.Deciding.{is_kind, climbs}
use Rattle.std.specs.List.{list_all}
use Rattle.std.specs.FinMap.{entries, len}
use Rattle.row_tree.proofs.typed.TypedRows.lead_up.Given as goal

-- what is left passes exactly where all does
abbrev pub invariant-loop-id : goal.invariant-loop-id
invariant-loop-id l = list_all (λ e. not (is_kind (kind_of e.1.part) kinds.Dir) || climbs l.self (len l.self.inodes) e.0) l.id-iterator ≡ list_all (λ e. not (is_kind (kind_of e.1.part) kinds.Dir) || climbs l.self (len l.self.inodes) e.0) (entries l.self.inodes)
