use Rattle.txn_task.specs.declared.messages.Answer.TheVariants.{Begun}
use Rattle.meta_task.specs.State.{view_of}
use Rattle.meta_task.proofs.AskLaws.{asks_next}
use Rattle.meta_task.proofs.state.State.take_begun.Goals as goal

pub returns-then-is_query-clause-asks : goal.returns-then-is_query-clause-asks
returns-then-is_query-clause-asks c = asks_next (view_of c.args.self.now) (view_of c.restart.new.self) (view_of c.begin.new.self) (Begun c.args.version) c.in_ok-ask.ask c.restart.ensures.known tt c.in_ok-ask.ensures.goes

pub returns-clause-asks : goal.returns-clause-asks
returns-clause-asks c = asks_next (view_of c.args.self.now) (view_of c.restart.new.self) (view_of c.ask_kept.new.self) (Begun c.args.version) c.in_ok-ask-2.ask c.restart.ensures.known tt c.in_ok-ask-2.ensures.goes
