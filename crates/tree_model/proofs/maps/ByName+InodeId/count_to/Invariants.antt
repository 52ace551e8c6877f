use Rattle.std.proofs.Common.{◌≡◌, ℕ, ◌+◌, ◌<◌, ◌^◌, ◌==◌, length}
use Rattle.tree_model.specs.Maps.{tally, count_where}
use Rattle.tree_model.proofs.maps.ByName+InodeId.count_to.Given as goal

abbrev pub invariant-loop-key : goal.invariant-loop-key
invariant-loop-key l =
    record {
      counted : l.count + tally (λ (x : ℕ). x == l.id) l._key-iterator ≡ count_where (λ (x : ℕ). x == l.id) l.self;
      fits : l.count + length l._key-iterator < 2 ^ 63;
    }
