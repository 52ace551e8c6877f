use Rattle.std.proofs.Common.{◌<◌, length, refl, sym, ap, subst, ◌∙◌}
use Rattle.std.specs.Prelude.{slice_get}
use Rattle.world_core.specs.Objects.{no_histories}
use Rattle.request_run.specs.Entries.{entries_of}
use Rattle.seat_turns.specs.Events.{IsTurnOf}
use Rattle.seat_turns.specs.Left.{SeatsGoOn}
use Rattle.world_core.specs.World.{WorldView, plan_of_world}
use Rattle.world_core.proofs.Closing.{grown_step, not_ended, plan_went, world_went}
use Rattle.world_core.proofs.world.World.turn.Goals as goal

pub returns-in_err-event-clause-step : goal.returns-in_err-event-clause-step
returns-in_err-event-clause-step c =
    λ seat at.
    grown_step c.args.self.now.objects c.self.inside.store c.event.new.store (no_histories c.self.inside.config.nodes) seat.client.script.id (ap (λ (w : WorldView). w.objects) c.self.view_is)
    (c.event.ensures.step seat (ap (λ (w : WorldView). slice_get w.seats c.args.client) c.self.view_is ∙ at))

pub invariant_of-self-2 : goal.invariant_of-self-2
invariant_of-self-2 c =
    world_went c.self.inside.config c.self.inside.attempts c.self.inside.store c.event.new.store (no_histories c.self.inside.config.nodes) c.self.inside.seats.items c.event.new.seats.items
    c.self.inside.servers.counts.items c.event.new.servers.counts.items c.self.inside.servers.stops c.event.new.servers.stops c.self.inside.schedule c.self.inside.failed
    c.self.invariant c.event.ensures.scripts c.event.ensures.stops c.event.ensures.config c.event.ensures.begun c.in_ok-event.ensures.seated

pub returns-clause-turn : goal.returns-clause-turn
returns-clause-turn c =
    record {
      within = c.requires;
      left = λ seat at.
          not_ended c.self.inside.seats.items c.from.result c.args.client c.index.result.now c.has_ended.result c.from.ensures (subst (λ (w : WorldView). c.args.client < length w.seats) (sym c.self.view_is) c.requires) c.index.ensures
          c.has_ended.ensures c.if-has_ended.false seat (ap (λ (w : WorldView). slice_get w.seats c.args.client) c.self.view_is ∙ at);
      seats = subst (λ (w : WorldView). SeatsGoOn w.seats c.event.new.seats.items c.args.client) c.self.view_is c.in_ok-event.ensures.goes;
      event = subst
          (λ (w : WorldView).
          IsTurnOf w.config w.attempts c.args.client w.stops (entries_of w.objects.store.journal) (entries_of c.event.new.store.journal) w.counts c.event.new.servers.counts.items w.seats c.event.new.seats.items)
          c.self.view_is c.in_ok-event.ensures.turn;
      same_plan = plan_went c.self.inside.config c.self.inside.attempts c.self.inside.seats.items c.event.new.seats.items c.self.inside.servers.stops c.event.new.servers.stops c.self.inside.schedule
          c.event.ensures.scripts c.event.ensures.stops ∙ ap plan_of_world c.self.view_is;
      objects = λ seat at.
          grown_step c.args.self.now.objects c.self.inside.store c.event.new.store (no_histories c.self.inside.config.nodes) seat.client.script.id (ap (λ (w : WorldView). w.objects) c.self.view_is)
          (c.event.ensures.step seat (ap (λ (w : WorldView). slice_get w.seats c.args.client) c.self.view_is ∙ at));
      was_alive = ap (λ (w : WorldView). w.failed) (sym c.self.view_is) ∙ c.if-self.false;
      alive = refl;
      world = world_went c.self.inside.config c.self.inside.attempts c.self.inside.store c.event.new.store (no_histories c.self.inside.config.nodes) c.self.inside.seats.items c.event.new.seats.items
          c.self.inside.servers.counts.items c.event.new.servers.counts.items c.self.inside.servers.stops c.event.new.servers.stops c.self.inside.schedule c.self.inside.failed
          c.self.invariant c.event.ensures.scripts c.event.ensures.stops c.event.ensures.config c.event.ensures.begun c.in_ok-event.ensures.seated;
    }

pub returns-clause-step : goal.returns-clause-step
returns-clause-step c =
    λ seat at.
    grown_step c.args.self.now.objects c.self.inside.store c.event.new.store (no_histories c.self.inside.config.nodes) seat.client.script.id (ap (λ (w : WorldView). w.objects) c.self.view_is)
    (c.event.ensures.step seat (ap (λ (w : WorldView). slice_get w.seats c.args.client) c.self.view_is ∙ at))
