use Rattle.std.proofs.Common.{◌≡◌, ◌∙◌, ℕ, Option, option_map, slice_get, slice_set, subst}
use Rattle.std.proofs.lemmas.Result.{on_ok_weaker}
use Rattle.request_run.specs.Entries.{IsGrowth, entries_of}
use Rattle.request_run.proofs.Continuing.{open_grown}
use Rattle.seat_turns.specs.Events.{IsEvent, lost_at}
use Rattle.seat_turns.specs.Servers.{HasCounted, has_made}
use Rattle.seat_turns.specs.declared.seats.Seat.{Seat}
use Rattle.seat_turns.proofs.EventLaws.{turn_goes_on}
use Rattle.seat_turns.proofs.Seating.{each_there, scripts_there, seat_there}
use Rattle.seat_turns.proofs.Turning.{each_sent, on_ok_each, seated_quiet, seated_stopped, turn_quiet, turn_stopped}
use Rattle.seat_turns.proofs.turns.event.Goals as goal

pub turn-requires-clause-seat : goal.turn-requires-clause-seat
turn-requires-clause-seat c =
    c.requires.seated.all c.args.k c.index_mut.result.now
    (seat_there c.args.seats.now.items c.from.result c.args.k c.index_mut.result.now c.from.ensures c.requires.within c.index_mut.ensures.value)

pub lose_all-requires : goal.lose_all-requires
lose_all-requires c =
    record {
      sent = each_sent c.args.config c.args.attempts c.args.servers.now.stops (entries_of c.turn.new.store.journal) _
          (seated_quiet c.args.config c.args.attempts c.args.servers.now.stops c.args.k c.args.seats.now.items c.from.result
          c.index_mut.result.now c.turn.new.seat c.from.ensures c.requires.within c.index_mut.ensures.value
          c.args.store.now c.turn.new.store c.turn.ensures.script
          c.requires.distinct c.in_ok-asking.ensures.kept.2 c.args.servers.now.counts.items c.turn.new.servers.counts.items c.requires.seated
          c.turn.ensures.step c.in_ok-asking.ensures.kept.0 c.in_ok-asking.ensures.kept.1 c.in_ok-asking.ensures.counts).all;
    }

pub returns-in-None-clause-seated : goal.returns-in-None-clause-seated
returns-in-None-clause-seated c =
    seated_quiet c.args.config c.args.attempts c.args.servers.now.stops c.args.k c.args.seats.now.items c.from.result
    c.index_mut.result.now c.turn.new.seat c.from.ensures c.requires.within c.index_mut.ensures.value
    c.args.store.now c.turn.new.store c.turn.ensures.script
    c.requires.distinct c.in_ok-asking.ensures.kept.2 c.args.servers.now.counts.items c.turn.new.servers.counts.items c.requires.seated
    c.turn.ensures.step c.in_ok-asking.ensures.kept.0 c.in_ok-asking.ensures.kept.1 c.in_ok-asking.ensures.counts

pub returns-in-None-clause-turn : goal.returns-in-None-clause-turn
returns-in-None-clause-turn c =
    turn_quiet c.args.config c.args.attempts c.args.servers.now.stops c.args.k c.args.seats.now.items c.from.result
    c.index_mut.result.now c.turn.new.seat c.from.ensures c.requires.within c.index_mut.ensures.value
    (entries_of c.args.store.now.journal) (entries_of c.turn.new.store.journal) c.args.servers.now.counts.items c.turn.new.servers.counts.items c.in_ok-asking.asking.server
    (subst (λ (s : Option ℕ). IsEvent c.args.config c.args.attempts c.args.k c.in_ok-asking.asking.server s (entries_of c.args.store.now.journal) (entries_of c.turn.new.store.journal)
    c.index_mut.result.now c.turn.new.seat) c.in-None.is c.in_ok-asking.ensures.event)
    (subst (λ (s : Option ℕ). HasCounted c.args.servers.now.stops c.in_ok-asking.asking.server (has_made (entries_of c.args.store.now.journal) (entries_of c.turn.new.store.journal)) s c.args.servers.now.counts.items c.turn.new.servers.counts.items)
    c.in-None.is c.in_ok-asking.ensures.counted)

pub returns-in-None-clause-goes : goal.returns-in-None-clause-goes
returns-in-None-clause-goes c =
    turn_goes_on c.args.config c.args.attempts c.args.k c.args.servers.now.stops (entries_of c.args.store.now.journal) (entries_of c.turn.new.store.journal) c.args.servers.now.counts.items c.turn.new.servers.counts.items c.args.seats.now.items _
    (turn_quiet c.args.config c.args.attempts c.args.servers.now.stops c.args.k c.args.seats.now.items c.from.result
    c.index_mut.result.now c.turn.new.seat c.from.ensures c.requires.within c.index_mut.ensures.value
    (entries_of c.args.store.now.journal) (entries_of c.turn.new.store.journal) c.args.servers.now.counts.items c.turn.new.servers.counts.items c.in_ok-asking.asking.server
    (subst (λ (s : Option ℕ). IsEvent c.args.config c.args.attempts c.args.k c.in_ok-asking.asking.server s (entries_of c.args.store.now.journal) (entries_of c.turn.new.store.journal)
    c.index_mut.result.now c.turn.new.seat) c.in-None.is c.in_ok-asking.ensures.event)
    (subst (λ (s : Option ℕ). HasCounted c.args.servers.now.stops c.in_ok-asking.asking.server (has_made (entries_of c.args.store.now.journal) (entries_of c.turn.new.store.journal)) s c.args.servers.now.counts.items c.turn.new.servers.counts.items)
    c.in-None.is c.in_ok-asking.ensures.counted))

pub returns-in-Some-clause-seated : goal.returns-in-Some-clause-seated
returns-in-Some-clause-seated c =
    on_ok_weaker c.lose_all.result
    (λ each.
    seated_stopped c.args.config c.args.attempts c.args.servers.now.stops c.args.k c.args.seats.now.items c.from.result
    c.index_mut.result.now c.turn.new.seat c.from.ensures c.requires.within c.index_mut.ensures.value
    c.args.store.now c.turn.new.store c.turn.ensures.script
    c.requires.distinct c.in_ok-asking.ensures.kept.2 c.args.servers.now.counts.items c.turn.new.servers.counts.items c.requires.seated
    c.turn.ensures.step c.in_ok-asking.ensures.kept.0 c.in_ok-asking.ensures.kept.1 c.in_ok-asking.ensures.counts
    c.in_ok-asking.asking.server c.in-Some.stop c.lose_all.new.seats.items (c.in_ok-asking.ensures.planned c.in-Some.stop c.in-Some.is)
    c.lose_all.ensures.scripts each)
    (on_ok_each
    (λ (j : ℕ).
    slice_get c.lose_all.new.seats.items j
    ≡ option_map (λ (seat : Seat). lost_at c.in_ok-asking.asking.server c.in-Some.stop seat seat.work)
    (slice_get (slice_set c.args.seats.now.items c.from.result c.turn.new.seat) j))
    c.lose_all.result c.lose_all.ensures.lost)

pub returns-in-Some-clause-turn : goal.returns-in-Some-clause-turn
returns-in-Some-clause-turn c =
    on_ok_weaker c.lose_all.result
    (λ each.
    turn_stopped c.args.config c.args.attempts c.args.servers.now.stops c.args.k c.args.seats.now.items c.from.result
    c.index_mut.result.now c.turn.new.seat c.from.ensures c.requires.within c.index_mut.ensures.value
    (entries_of c.args.store.now.journal) (entries_of c.turn.new.store.journal) c.args.servers.now.counts.items c.turn.new.servers.counts.items c.in_ok-asking.asking.server c.in-Some.stop c.lose_all.new.seats.items
    (subst (λ (s : Option ℕ). IsEvent c.args.config c.args.attempts c.args.k c.in_ok-asking.asking.server s (entries_of c.args.store.now.journal) (entries_of c.turn.new.store.journal)
    c.index_mut.result.now c.turn.new.seat) c.in-Some.is c.in_ok-asking.ensures.event)
    (subst (λ (s : Option ℕ). HasCounted c.args.servers.now.stops c.in_ok-asking.asking.server (has_made (entries_of c.args.store.now.journal) (entries_of c.turn.new.store.journal)) s c.args.servers.now.counts.items c.turn.new.servers.counts.items)
    c.in-Some.is c.in_ok-asking.ensures.counted) each)
    (on_ok_each
    (λ (j : ℕ).
    slice_get c.lose_all.new.seats.items j
    ≡ option_map (λ (seat : Seat). lost_at c.in_ok-asking.asking.server c.in-Some.stop seat seat.work)
    (slice_get (slice_set c.args.seats.now.items c.from.result c.turn.new.seat) j))
    c.lose_all.result c.lose_all.ensures.lost)

pub returns-in-Some-clause-goes : goal.returns-in-Some-clause-goes
returns-in-Some-clause-goes c =
    on_ok_weaker c.lose_all.result
    (λ each.
    turn_goes_on c.args.config c.args.attempts c.args.k c.args.servers.now.stops (entries_of c.args.store.now.journal) (entries_of c.turn.new.store.journal) c.args.servers.now.counts.items c.turn.new.servers.counts.items c.args.seats.now.items c.lose_all.new.seats.items
    (turn_stopped c.args.config c.args.attempts c.args.servers.now.stops c.args.k c.args.seats.now.items c.from.result
    c.index_mut.result.now c.turn.new.seat c.from.ensures c.requires.within c.index_mut.ensures.value
    (entries_of c.args.store.now.journal) (entries_of c.turn.new.store.journal) c.args.servers.now.counts.items c.turn.new.servers.counts.items c.in_ok-asking.asking.server c.in-Some.stop c.lose_all.new.seats.items
    (subst (λ (s : Option ℕ). IsEvent c.args.config c.args.attempts c.args.k c.in_ok-asking.asking.server s (entries_of c.args.store.now.journal) (entries_of c.turn.new.store.journal)
    c.index_mut.result.now c.turn.new.seat) c.in-Some.is c.in_ok-asking.ensures.event)
    (subst (λ (s : Option ℕ). HasCounted c.args.servers.now.stops c.in_ok-asking.asking.server (has_made (entries_of c.args.store.now.journal) (entries_of c.turn.new.store.journal)) s c.args.servers.now.counts.items c.turn.new.servers.counts.items)
    c.in-Some.is c.in_ok-asking.ensures.counted) each))
    (on_ok_each
    (λ (j : ℕ).
    slice_get c.lose_all.new.seats.items j
    ≡ option_map (λ (seat : Seat). lost_at c.in_ok-asking.asking.server c.in-Some.stop seat seat.work)
    (slice_get (slice_set c.args.seats.now.items c.from.result c.turn.new.seat) j))
    c.lose_all.result c.lose_all.ensures.lost)

pub returns-in_err-asking-clause-scripts : goal.returns-in_err-asking-clause-scripts
returns-in_err-asking-clause-scripts c =
    scripts_there c.args.seats.now.items c.from.result c.args.k c.index_mut.result.now c.turn.new.seat c.from.ensures c.requires.within
    c.index_mut.ensures.value c.turn.ensures.script

pub returns-in_err-asking-clause-begun : goal.returns-in_err-asking-clause-begun
returns-in_err-asking-clause-begun c = open_grown c.turn.ensures.step c.requires.begun

pub returns-in_err-asking-clause-step : goal.returns-in_err-asking-clause-step
returns-in_err-asking-clause-step c =
    each_there (λ seat. IsGrowth c.args.store.now c.turn.new.store seat.client.script.id) c.args.seats.now.items c.from.result c.args.k c.index_mut.result.now
    c.from.ensures c.requires.within c.index_mut.ensures.value c.turn.ensures.step

pub returns-in-None-clause-scripts : goal.returns-in-None-clause-scripts
returns-in-None-clause-scripts c =
    scripts_there c.args.seats.now.items c.from.result c.args.k c.index_mut.result.now c.turn.new.seat c.from.ensures c.requires.within
    c.index_mut.ensures.value c.turn.ensures.script

pub returns-in-None-clause-begun : goal.returns-in-None-clause-begun
returns-in-None-clause-begun c = open_grown c.turn.ensures.step c.requires.begun

pub returns-in-None-clause-step : goal.returns-in-None-clause-step
returns-in-None-clause-step c =
    each_there (λ seat. IsGrowth c.args.store.now c.turn.new.store seat.client.script.id) c.args.seats.now.items c.from.result c.args.k c.index_mut.result.now
    c.from.ensures c.requires.within c.index_mut.ensures.value c.turn.ensures.step

pub returns-in-Some-clause-scripts : goal.returns-in-Some-clause-scripts
returns-in-Some-clause-scripts c =
    c.lose_all.ensures.scripts ∙ scripts_there c.args.seats.now.items c.from.result c.args.k c.index_mut.result.now c.turn.new.seat c.from.ensures c.requires.within
    c.index_mut.ensures.value c.turn.ensures.script

pub returns-in-Some-clause-begun : goal.returns-in-Some-clause-begun
returns-in-Some-clause-begun c = open_grown c.turn.ensures.step c.requires.begun

pub returns-in-Some-clause-step : goal.returns-in-Some-clause-step
returns-in-Some-clause-step c =
    each_there (λ seat. IsGrowth c.args.store.now c.turn.new.store seat.client.script.id) c.args.seats.now.items c.from.result c.args.k c.index_mut.result.now
    c.from.ensures c.requires.within c.index_mut.ensures.value c.turn.ensures.step
