use Rattle.std.proofs.lemmas.Result.{on_ok_weaker}
use Rattle.request_run.specs.Entries.{entries_of}
use Rattle.seat_turns.proofs.Sending.{seat_again}
use Rattle.seat_turns.proofs.starting.start.Goals as goal

pub returns-in-Some-clause-seat : goal.returns-in-Some-clause-seat
returns-in-Some-clause-seat c = λ stops h.
    on_ok_weaker c.send_again.result
    (λ sent.
    seat_again c.args.config c.args.attempts stops (entries_of c.args.store.now.journal) c.args.k c.args.seat.now h c.requires.from
    c.in-Some.front c.send_again.new.seat c.in-Some.is sent)
    c.send_again.ensures.sent
