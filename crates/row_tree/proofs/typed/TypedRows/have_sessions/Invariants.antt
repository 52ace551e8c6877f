use Rattle.std.proofs.Common.{◌≡◌}
use Rattle.fs_base.specs.declared.kind.Kind.TheVariants as kinds
use Rattle.row_tree.specs.Deciding.{has_kind}
use Rattle.std.specs.List.{list_all}
use Rattle.std.specs.FinMap.{entries}
use Rattle.row_tree.proofs.typed.TypedRows.have_sessions.Given as goal

-- what is left passes exactly where all does
abbrev pub invariant-loop-key : goal.invariant-loop-key
invariant-loop-key l = list_all (λ e. has_kind l.self e.0.0 kinds.File) l.key-iterator ≡ list_all (λ e. has_kind l.self e.0.0 kinds.File) (entries l.self.sessions)
