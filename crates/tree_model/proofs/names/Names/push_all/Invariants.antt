use Rattle.std.proofs.Common.{◌≡◌, ◌≤◌, ◌++◌, drop, length}
use Rattle.tree_model.proofs.names.Names.push_all.Given as goal

abbrev pub invariant-loop-i : goal.invariant-loop-i
invariant-loop-i l = record { place : l.i ≤ length l.names; pushed : l.self ≡ drop l.i l.names ++ l.initial.self }

abbrev pub decreases-loop-i : goal.decreases-loop-i
decreases-loop-i l = l.i
