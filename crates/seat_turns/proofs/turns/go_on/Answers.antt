use Rattle.std.proofs.Common.{◌∙◌, OnOk, ap, arith, subst, sym}
use Rattle.fs_base.specs.Config.{Settings}
use Rattle.fs_base.specs.declared.ids.ClientId.{ClientId}
use Rattle.request_run.specs.Entries.{IsGrowth, entries_of}
use Rattle.request_run.specs.Served.{AreCovered}
use Rattle.request_run.proofs.Continuing.{growth_by}
use Rattle.seat_turns.specs.Events.{Comes}
use Rattle.seat_turns.specs.Ready.{TellsSound, is_done}
use Rattle.seat_turns.specs.declared.seats.Seat.{Seat}
use Rattle.seat_turns.proofs.Coming.{client_is, has_outcome, server_below, sound_after, to_serve}
use Rattle.seat_turns.proofs.Going.{commits_few, counted_so, counts_after, kept_after, planned_after, stops_few}
use Rattle.seat_turns.proofs.Working.{work_of}
use Rattle.seat_turns.proofs.turns.go_on.Goals as goal

pub advance-requires-clause-served : goal.advance-requires-clause-served
advance-requires-clause-served c =
    (to_serve c.args.config c.args.store.now.config c.args.attempts c.args.servers.now.stops c.args.k c.args.store.now c.args.seat.now c.in-Some.work c.requires.config
    c.requires.seat (sym c.take_work.ensures.work ∙ c.in-Some.is)).0

pub count-requires-clause-within : goal.count-requires-clause-within
count-requires-clause-within c =
    let below = server_below c.args.config c.args.store.now.config c.args.attempts c.args.servers.now.stops c.args.k c.args.store.now c.args.seat.now c.in-Some.work c.requires.config
    c.requires.seat (sym c.take_work.ensures.work ∙ c.in-Some.is) in
    omega (arith, below, c.requires.counted.many)

pub count-requires-clause-entries : goal.count-requires-clause-entries
count-requires-clause-entries c = λ counts at.
    commits_few c.args.config c.args.servers.now.stops c.args.store.now c.args.servers.now.counts.items c.requires.counted
    c.in-Some.work.server counts at c.requires.short

pub count-requires-clause-few : goal.count-requires-clause-few
count-requires-clause-few c = λ counts at.
    stops_few c.args.config c.args.servers.now.stops c.args.store.now c.args.servers.now.counts.items c.requires.counted
    c.in-Some.work.server counts at c.requires.few

pub settle-requires-clause-sent : goal.settle-requires-clause-sent
settle-requires-clause-sent c =
    let under_way = (work_of c.args.config c.args.attempts c.args.servers.now.stops (entries_of c.args.store.now.journal) c.args.k
    c.args.seat.now c.requires.seat c.in-Some.work (sym c.take_work.ensures.work ∙ c.in-Some.is)).0 in
    (under_way.0, ap (λ (s : Seat). s.client.request) c.take_work.ensures.seat ∙ under_way.1)

pub settle-requires-clause-ended : goal.settle-requires-clause-ended
settle-requires-clause-ended c = has_outcome _ _ _ _ _ c.in_ok-work.work.task c.in_ok-work.work.ask c.in_ok-work.ensures.served

pub settle-requires-clause-files : goal.settle-requires-clause-files
settle-requires-clause-files c = λ done.
    subst (λ (s : Seat). TellsSound s.client.config c.in_ok-work.work.task) (sym c.take_work.ensures.seat)
    (sound_after c.args.config c.args.store.now.config c.args.attempts c.args.servers.now.stops c.args.k c.args.store.now c.args.seat.now c.in-Some.work c.requires.config
    c.requires.seat (sym c.take_work.ensures.work ∙ c.in-Some.is) (entries_of c.advance.new.store.journal) c.in_ok-work.work c.in_ok-work.ensures.served done)

pub returns-clause-kept : goal.returns-clause-kept
returns-clause-kept c = (
  kept_after c.args.config c.args.store.now.config c.args.attempts c.args.servers.now.stops c.args.k c.args.store.now c.advance.new.store
      c.args.seat.now c.in-Some.work c.requires.config c.requires.seat (sym c.take_work.ensures.work ∙ c.in-Some.is)
      c.advance.ensures.grows c.args.servers.now.counts.items c.count.new.self.counts.items c.requires.counted c.in_ok-stop.stop
      (counted_so c.args.servers.now.stops c.in-Some.work.server c.args.store.now c.advance.new.store c.front-before.result c.front.result
      c.in_ok-stop.stop c.args.servers.now.counts.items c.count.new.self.counts.items c.front-before.ensures.front c.front.ensures.front
      c.in_ok-stop.ensures.counted)
      c.settle.new.seat c.in_ok-work.work c.in_ok-work.ensures.few c.in_ok-work.ensures.served c.in_ok-work.ensures.work
      (subst (λ (s : Seat). Comes c.args.config c.args.k s c.settle.new.seat c.in_ok-work.work c.in_ok-stop.stop (is_done c.in_ok-work.work.ask))
      c.take_work.ensures.seat c.in_ok-settle.ensures.comes),
  subst (λ (C : Settings). AreCovered C (entries_of c.advance.new.store.journal)) c.requires.config
      (c.in_ok-work.ensures.covered
      (subst (λ (C : Settings). AreCovered C (entries_of c.args.store.now.journal)) (sym c.requires.config) c.requires.covered)),
  c.in_ok-work.ensures.few,
)

pub returns-clause-counts : goal.returns-clause-counts
returns-clause-counts c = counts_after c.args.config c.args.store.now.config c.args.attempts c.args.servers.now.stops c.args.k c.args.store.now c.advance.new.store
    c.args.seat.now c.in-Some.work c.requires.config c.requires.seat (sym c.take_work.ensures.work ∙ c.in-Some.is)
    c.advance.ensures.grows c.args.servers.now.counts.items c.count.new.self.counts.items c.requires.counted c.in_ok-stop.stop
    (counted_so c.args.servers.now.stops c.in-Some.work.server c.args.store.now c.advance.new.store c.front-before.result c.front.result
    c.in_ok-stop.stop c.args.servers.now.counts.items c.count.new.self.counts.items c.front-before.ensures.front c.front.ensures.front
    c.in_ok-stop.ensures.counted)

pub returns-clause-planned : goal.returns-clause-planned
returns-clause-planned c = λ number at.
    planned_after c.args.config c.args.store.now.config c.args.attempts c.args.servers.now.stops c.args.k c.args.store.now c.advance.new.store
    c.args.seat.now c.in-Some.work c.requires.config c.requires.seat (sym c.take_work.ensures.work ∙ c.in-Some.is)
    c.advance.ensures.grows c.args.servers.now.counts.items c.count.new.self.counts.items c.requires.counted c.in_ok-stop.stop
    (counted_so c.args.servers.now.stops c.in-Some.work.server c.args.store.now c.advance.new.store c.front-before.result c.front.result
    c.in_ok-stop.stop c.args.servers.now.counts.items c.count.new.self.counts.items c.front-before.ensures.front c.front.ensures.front
    c.in_ok-stop.ensures.counted)
    number at

pub returns-in_err-work-clause-step : goal.returns-in_err-work-clause-step
returns-in_err-work-clause-step c =
    subst (λ (id : ClientId). IsGrowth c.args.store.now c.advance.new.store id)
    (client_is c.args.config c.args.store.now.config c.args.attempts c.args.servers.now.stops c.args.k c.args.store.now c.args.seat.now c.in-Some.work c.requires.config
    c.requires.seat (sym c.take_work.ensures.work ∙ c.in-Some.is))
    (growth_by c.args.store.now c.advance.new.store c.in-Some.work.task.request c.advance.ensures.grows)

pub returns-in_err-stop-clause-step : goal.returns-in_err-stop-clause-step
returns-in_err-stop-clause-step c =
    subst (λ (id : ClientId). IsGrowth c.args.store.now c.advance.new.store id)
    (client_is c.args.config c.args.store.now.config c.args.attempts c.args.servers.now.stops c.args.k c.args.store.now c.args.seat.now c.in-Some.work c.requires.config
    c.requires.seat (sym c.take_work.ensures.work ∙ c.in-Some.is))
    (growth_by c.args.store.now c.advance.new.store c.in-Some.work.task.request c.advance.ensures.grows)

pub returns-in_err-settle-clause-step : goal.returns-in_err-settle-clause-step
returns-in_err-settle-clause-step c =
    subst (λ (id : ClientId). IsGrowth c.args.store.now c.advance.new.store id)
    (client_is c.args.config c.args.store.now.config c.args.attempts c.args.servers.now.stops c.args.k c.args.store.now c.args.seat.now c.in-Some.work c.requires.config
    c.requires.seat (sym c.take_work.ensures.work ∙ c.in-Some.is))
    (growth_by c.args.store.now c.advance.new.store c.in-Some.work.task.request c.advance.ensures.grows)

pub returns-clause-step : goal.returns-clause-step
returns-clause-step c =
    subst (λ (id : ClientId). IsGrowth c.args.store.now c.advance.new.store id)
    (client_is c.args.config c.args.store.now.config c.args.attempts c.args.servers.now.stops c.args.k c.args.store.now c.args.seat.now c.in-Some.work c.requires.config
    c.requires.seat (sym c.take_work.ensures.work ∙ c.in-Some.is))
    (growth_by c.args.store.now c.advance.new.store c.in-Some.work.task.request c.advance.ensures.grows)
