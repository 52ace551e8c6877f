use Rattle.world_core.proofs.Closing.{plan_new, world_new}
use Rattle.world_core.proofs.world.World.new.Goals as goal

pub invariant_of-result : goal.invariant_of-result
invariant_of-result c =
    world_new c.args.plan c.in_ok-store.store c.in_ok-seats.seats.items c.in_ok-servers.servers.counts.items c.in_ok-servers.servers.stops
    c.in_ok-seats.ensures c.in_ok-servers.ensures.counts c.in_ok-servers.ensures.stops c.requires c.in_ok-store.ensures.config c.in_ok-store.ensures.none c.in_ok-store.ensures.begun

pub returns-clause-plan : goal.returns-clause-plan
returns-clause-plan c =
    plan_new c.args.plan c.in_ok-store.store c.in_ok-seats.seats.items c.in_ok-servers.servers.counts.items c.in_ok-servers.servers.stops
    c.in_ok-seats.ensures c.in_ok-servers.ensures.counts c.in_ok-servers.ensures.stops
