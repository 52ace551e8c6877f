use Rattle.std.proofs.Common.{◌≡◌, ◌∷◌, replicate}
use Rattle.seat_turns.proofs.ending.fronts.Given as goal

abbrev pub invariant-loop-node : goal.invariant-loop-node
invariant-loop-node l = l.fronts ≡ l.front ∷ replicate l._node 0
