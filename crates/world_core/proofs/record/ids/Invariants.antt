use Rattle.std.proofs.Common.{◌≡◌, map, take}
use Rattle.seat_turns.specs.Seats.{scripts_of_seats}
use Rattle.world_core.proofs.record.ids.Given as goal

abbrev pub invariant-loop-seat : goal.invariant-loop-seat
invariant-loop-seat l = l.ids ≡ map (λ script. script.id) (scripts_of_seats (take l.seat-index l.seats))
