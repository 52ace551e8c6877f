use Rattle.std.proofs.Common.{subst, sym}
use Rattle.txn_task.specs.declared.messages.Ask.{Ask}
use Rattle.request_run.specs.Nodes.{IsNodeAnswer}
use Rattle.request_run.proofs.nodes.node_answer.Goals as goal

pub returns-in_ok-answer-in-SetEnd-clause-answer : goal.returns-in_ok-answer-in-SetEnd-clause-answer
returns-in_ok-answer-in-SetEnd-clause-answer c =
    subst (λ (ask : Ask). IsNodeAnswer c.args.node.now c.set_end.new.node c.args.client c.args.number ask c.in_ok-answer-in-SetEnd.answer) (sym c.in-SetEnd.is) (c.in_ok-answer-in-SetEnd.ensures.answer c.in-SetEnd.node)
