use Rattle.std.proofs.Common.{ap, ◌∙◌}
use Rattle.meta_task.specs.State.{view_of}
use Rattle.meta_task.specs.declared.waiting.Waiting.TheVariants as waits
use Rattle.meta_task.proofs.AskLaws.{looks}
use Rattle.meta_task.proofs.state.State.look.Goals as goal

pub returns-clause-goes : goal.returns-clause-goes
returns-clause-goes c = looks (view_of c.args.self.now) c.set_waiting.new.waiting c.args.ask (c.set_waiting.ensures ∙ ap waits.Reading c.in_ok-copy.ensures) c.requires.going.begun c.requires.fresh c.requires.touched
