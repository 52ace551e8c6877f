use Rattle.std.proofs.Common.{◌≡◌, ℕ, false}
use Rattle.world_core.specs.Order.{AreRounds}
use Rattle.seat_turns.specs.Left.{AreSeatsAhead}
use Rattle.world_core.specs.World.{plan_of_world}
use Rattle.world_core.proofs.world.World.rounds.Given as goal

abbrev pub invariant-loop-done : goal.invariant-loop-done
invariant-loop-done l = (plan_of_world l.self ≡ plan_of_world l.fn.self) × (l.self.failed ≡ false) × AreSeatsAhead l._done l.self.seats × ((count : ℕ) × AreRounds l.fn.self l.self count)
