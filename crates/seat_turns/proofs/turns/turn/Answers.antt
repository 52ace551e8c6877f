use Rattle.std.proofs.Common.{length, refl, subst}
use Rattle.std.proofs.lemmas.Result.{IfOk-weaker}
use Rattle.request_run.specs.Entries.{IsGrowth, entries_of}
use Rattle.client_core.specs.declared.plan.Script.{Script}
use Rattle.seat_turns.specs.Events.{HasExchanged, IsEvent}
use Rattle.seat_turns.proofs.EventLaws.{work_there}
use Rattle.seat_turns.proofs.turns.turn.Goals as goal

pub start-requires-clause-seat : goal.start-requires-clause-seat
start-requires-clause-seat c = (c.args.servers.now.stops, c.requires.seat)

pub go_on-requires-clause-seat : goal.go_on-requires-clause-seat
go_on-requires-clause-seat c = c.in_ok-start.ensures.seat c.args.servers.now.stops c.requires.seat

pub go_on-requires-clause-there : goal.go_on-requires-clause-there
go_on-requires-clause-there c =
    work_there c.args.config c.args.attempts (length (entries_of c.args.store.now.journal)) c.args.seat.now c.start.new.seat
    c.args.seat.now.work c.args.seat.now.again refl c.in_ok-start.ensures.at_work

pub returns-clause-event : goal.returns-clause-event
returns-clause-event c =
    IfOk-weaker c.go_on.result
    (λ asking.
    HasExchanged c.args.config c.args.k asking.server asking.stop (entries_of c.args.store.now.journal) (entries_of c.go_on.new.store.journal)
    c.start.new.seat c.go_on.new.seat)
    (λ asking.
    IsEvent c.args.config c.args.attempts c.args.k asking.server asking.stop (entries_of c.args.store.now.journal)
    (entries_of c.go_on.new.store.journal) c.args.seat.now c.go_on.new.seat)
    (λ asking exchanged. record { sent = c.start.new.seat; at_work = c.in_ok-start.ensures.at_work; exchanged = exchanged })
    c.go_on.ensures.exchanged

pub returns-clause-step : goal.returns-clause-step
returns-clause-step c = subst (λ (s : Script). IsGrowth c.args.store.now c.go_on.new.store s.id) c.start.ensures.script c.go_on.ensures.step
