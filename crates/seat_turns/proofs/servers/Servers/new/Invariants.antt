use Rattle.std.proofs.Common.{◌≡◌, replicate}
use Rattle.seat_turns.specs.Servers.{no_counts}
use Rattle.seat_turns.proofs.servers.Servers.new.Given as goal

abbrev pub invariant-loop-server : goal.invariant-loop-server
invariant-loop-server l = l.counts.items ≡ replicate l._server no_counts
