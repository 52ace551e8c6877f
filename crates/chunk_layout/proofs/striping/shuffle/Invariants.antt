use Rattle.std.proofs.Common.{◌≡◌, ◌-◌, length}
use Rattle.chunk_layout.specs.Striping.{shuffled}
use Rattle.chunk_layout.proofs.striping.shuffle.Given as goal

abbrev pub invariant-loop-done : goal.invariant-loop-done
invariant-loop-done l = record {
  size : length l.chains.items ≡ length l.fn.chains.items;
  left : shuffled l.mix (length l.fn.chains.items - l.done) l.chains.items ≡ shuffled l.mix (length l.fn.chains.items - 1) l.fn.chains.items;
}
