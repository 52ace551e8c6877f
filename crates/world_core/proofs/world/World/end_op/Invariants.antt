use Rattle.std.proofs.Common.{◌≡◌, ℕ}
use Rattle.seat_turns.specs.Left.{Stays}
use Rattle.world_core.specs.World.{AreTurns, plan_of_world}
use Rattle.world_core.proofs.world.World.end_op.Given as goal

abbrev pub invariant-loop : goal.invariant-loop
invariant-loop l = (plan_of_world l.self ≡ plan_of_world l.fn.self) × Stays l.fn.self.seats l.self.seats l.fn.client × ((count : ℕ) × AreTurns l.fn.self l.self l.fn.client count)
