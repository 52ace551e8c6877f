use Rattle.std.proofs.Common.{◌≡◌, ℕ, false}
use Rattle.seat_turns.specs.Left.{AreSeatsAhead}
use Rattle.world_core.specs.Order.{IsRoundTo}
use Rattle.world_core.specs.World.{plan_of_world}
use Rattle.seat_turns.proofs.Ahead.{AreAheadTo}
use Rattle.world_core.proofs.world.World.round.Given as goal

abbrev pub invariant-loop-client : goal.invariant-loop-client
invariant-loop-client l = (plan_of_world l.self ≡ plan_of_world l.fn.self) × (l.fn.self.failed ≡ false → l.self.failed ≡ false) × ((rounds : ℕ) → AreSeatsAhead rounds l.fn.self.seats → AreAheadTo rounds l.client l.self.seats) × IsRoundTo l.fn.self l.self l.client
