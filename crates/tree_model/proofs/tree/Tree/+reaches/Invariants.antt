use Rattle.std.proofs.Common.{◌≡◌, ◌==◌, ◌&&◌, ◌-◌}
use Rattle.std.specs.List.{list_any}
use Rattle.std.specs.FinMap.{entries}
use Rattle.tree_model.specs.Moving.{reaches}
use Rattle.tree_model.proofs.tree.Tree.+reaches.Given as goal

-- what is left has a way down exactly where all has
abbrev pub invariant-loop-key : goal.invariant-loop-key
invariant-loop-key l =
    list_any (λ e. (e.0.0 == l.from) && reaches l.self.tree (l.depth - 1) l.to e.1) l.key-iterator
    ≡ list_any (λ e. (e.0.0 == l.from) && reaches l.self.tree (l.depth - 1) l.to e.1) (entries l.self.tree.entries)

abbrev pub decreases-reaches : goal.decreases-reaches
decreases-reaches l = l.depth
