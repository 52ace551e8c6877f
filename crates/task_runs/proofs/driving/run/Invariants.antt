use Rattle.task_runs.specs.Awaiting.{TaskAwaits}
use Rattle.task_runs.proofs.driving.run.Given as goal

abbrev pub invariant-loop-turn : goal.invariant-loop-turn
invariant-loop-turn l = TaskAwaits l.task.waiting l.ask
