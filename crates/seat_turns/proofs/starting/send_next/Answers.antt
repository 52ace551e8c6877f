use Rattle.std.proofs.Common.{◌∙◌, ap, length, sym}
use Rattle.request_run.specs.Entries.{entries_of}
use Rattle.request_run.proofs.Rows.{length_entries}
use Rattle.seat_turns.proofs.Sending.{has_sent, new_work, seat_sent}
use Rattle.seat_turns.proofs.starting.send_next.Goals as goal

pub returns-clause-seat : goal.returns-clause-seat
returns-clause-seat c = λ stops h.
    seat_sent c.args.config c.args.attempts stops (entries_of c.args.store.now.journal) c.args.k c.args.seat.now h c.requires.from
    c.set_work.new.seat c.requires.idle.0 c.requires.idle.1
    (has_sent c.args.config c.args.attempts (length (entries_of c.args.store.now.journal)) c.args.seat.now c.next_step.new.seat
    c.set_work.new.seat c.in-Send.request c.in_ok-work-in-Send.work c.in-Send.server c.in_ok-server.field-0
    c.in_ok-server.ensures.seat c.in_ok-server.ensures.ask c.in-Send.is
    (c.in_ok-work-in-Send.ensures.work
    ∙ ap (λ n. new_work c.args.config c.args.attempts c.in-Send.server n c.in-Send.request)
    (c.front.ensures.front ∙ sym (length_entries c.args.store.now.journal)))
    c.set_work.ensures)
