use Rattle.seat_turns.proofs.Losing.{AreLostTo}
use Rattle.seat_turns.proofs.stopping.lose_all.Given as goal

abbrev pub invariant-loop-k : goal.invariant-loop-k
invariant-loop-k l = AreLostTo l.server l.stop l.fn.seats.items l.k l.seats.items
