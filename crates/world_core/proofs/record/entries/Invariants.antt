use Rattle.std.proofs.Common.{◌≡◌}
use Rattle.request_run.specs.Entries.{entries_of}
use Rattle.world_core.proofs.record.entries.Given as goal

abbrev pub invariant-loop-whole : goal.invariant-loop-whole
invariant-loop-whole l = l.entries ≡ entries_of l.yielded
