use Rattle.std.proofs.Common.{◌≡◌, ◌+◌, ◌%◌, map}
use Rattle.std.specs.List.{range_with_len}
use Rattle.chunk_layout.proofs.striping.chains_in_turn.Given as goal

abbrev pub invariant-loop-place : goal.invariant-loop-place
invariant-loop-place l = l.chains.items ≡ map (λ place. (l.layout.start + place) % l.config.chains) (range_with_len 0 l.place)
