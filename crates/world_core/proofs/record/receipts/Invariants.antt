use Rattle.std.proofs.Common.{◌≡◌}
use Rattle.seat_turns.specs.Seats.{receipts_in}
use Rattle.world_core.proofs.record.receipts.Given as goal

abbrev pub invariant-loop-seat : goal.invariant-loop-seat
invariant-loop-seat l = l.all ≡ receipts_in l.yielded
