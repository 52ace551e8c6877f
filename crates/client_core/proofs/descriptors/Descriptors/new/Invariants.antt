use Rattle.std.proofs.Common.{◌≡◌, None, replicate}
use Rattle.client_core.proofs.descriptors.Descriptors.new.Given as goal

abbrev pub invariant-loop : goal.invariant-loop
invariant-loop l = l.kept.items ≡ replicate l.counter None
