use Rattle.request_run.proofs.Answering.{answered_grows}
use Rattle.request_run.proofs.answers.answer.Goals as goal

pub returns-in_err-answer-in-Commit-clause-grows : goal.returns-in_err-answer-in-Commit-clause-grows
returns-in_err-answer-in-Commit-clause-grows c = answered_grows c.args.store.now c.commit_answer.new.store c.args.ask c.in-Commit.entry c.in-Commit.is c.commit_answer.ensures.grows

pub returns-in_ok-answer-in-Commit-clause-grows : goal.returns-in_ok-answer-in-Commit-clause-grows
returns-in_ok-answer-in-Commit-clause-grows c = answered_grows c.args.store.now c.commit_answer.new.store c.args.ask c.in-Commit.entry c.in-Commit.is c.commit_answer.ensures.grows
