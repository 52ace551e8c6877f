use Rattle.op_session.proofs.task.SessionTask.go_on.Goals as goal

pub returns-clause-step : goal.returns-clause-step
returns-clause-step c = c.in_ok-step.ensures.step c.args.self.now.config
