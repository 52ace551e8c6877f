use Rattle.std.proofs.Common.{◌≡◌, ◌++◌}
use Rattle.world_core.proofs.record.append.Given as goal

abbrev pub invariant-loop-listed : goal.invariant-loop-listed
invariant-loop-listed l = l.all ≡ l.fn.all ++ l.yielded
