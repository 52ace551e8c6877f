use Rattle.std.proofs.Common.{◌≡◌}
use Rattle.seat_turns.specs.Seats.{seats_of}
use Rattle.seat_turns.proofs.seats.new_seats.Given as goal

abbrev pub invariant-loop-script : goal.invariant-loop-script
invariant-loop-script l = l.seats.items ≡ seats_of l.fn.config l.yielded
