use Rattle.std.proofs.Common.{◌≡◌}
use Rattle.client_core.specs.Awaiting.{Awaits}
use Rattle.client_and_io_tests.proofs.descriptors.sends.Given as goal

abbrev pub invariant-loop-line : goal.invariant-loop-line
invariant-loop-line g l =
    (goal.iterator-loop-line g).can_next l.line-iterator ×
    (goal.iterator-loop-line g).is_finite l.line-iterator ×
    Awaits l.client.request l.ask × (l.client.config.chains ≡ 1)
