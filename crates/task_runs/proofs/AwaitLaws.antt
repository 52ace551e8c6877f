-- A task waits for the answer to its ask.
use Rattle.std.proofs.Common.{ap}
use Rattle.txn_task.specs.declared.messages.Answer.{Answer}
use Rattle.txn_task.specs.declared.messages.Ask.{Ask}
use Rattle.txn_task.specs.declared.messages.Ask.TheVariants as asks
use Rattle.task_runs.specs.Awaiting.{TaskAwaits}
use Rattle.meta_task.specs.Task.{TaskView, Asks}

pub awaits : (old new : TaskView) (answer : Answer) (ask : Ask) → Asks old answer new ask → TaskAwaits new.waiting ask
awaits old new answer asks.Begin h = ap (λ (t : TaskView). t.waiting) h.0
awaits old new answer (asks.Get key) h = ap (λ (t : TaskView). t.waiting) h.is
awaits old new answer (asks.Range lo hi limit) h = ap (λ (t : TaskView). t.waiting) h.is
awaits old new answer (asks.Commit entry) h = ap (λ (t : TaskView). t.waiting) h.0
awaits old new answer asks.Done h = ap (λ (t : TaskView). t.waiting) h.1
awaits old new answer ask h = absurd h
