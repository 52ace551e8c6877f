use Rattle.std.proofs.Common.{subst}
use Rattle.txn_task.specs.declared.messages.Answer.TheVariants as answers
use Rattle.meta_task.specs.Task.{Asks, TaskView}
use Rattle.request_run.proofs.Continuing.{begins_ready}
use Rattle.request_run.proofs.requests.begin.Goals as goal

pub returns-clause-served : goal.returns-clause-served
returns-clause-served c =
    λ journal met.
    begins_ready c.args.config c.args.attempts journal c.args.request c.args.front c.next.new.self c.in_ok-ask.ask c.requires.from met
    (subst (λ (t : TaskView). Asks t answers.Start c.next.new.self c.in_ok-ask.ask) c.in_ok-task.ensures c.in_ok-ask.ensures.asks)
