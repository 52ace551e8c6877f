use Rattle.std.proofs.Common.{◌≡◌}
use Rattle.world_core.specs.Order.{AreItems}
use Rattle.world_core.specs.World.{schedule_items, plan_of_world}
use Rattle.world_core.proofs.world.World.take_schedule.Given as goal

abbrev pub invariant-loop-place : goal.invariant-loop-place
invariant-loop-place l = (plan_of_world l.self ≡ plan_of_world l.fn.self) × AreItems (schedule_items l.fn.self.schedule) l.fn.self l.self l.place
