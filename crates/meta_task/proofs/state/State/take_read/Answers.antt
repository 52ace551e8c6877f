use Rattle.std.proofs.Common.{◌≡◌}
use Rattle.std.specs.Prelude.{None}
use Rattle.meta_task.specs.State.{view_of}
use Rattle.meta_task.proofs.AskLaws.{asks_next}
use Rattle.meta_task.proofs.TakeLaws.{asks_kept, on_pending}
use Rattle.meta_task.proofs.state.State.take_read.Goals as goal

pub returns-in_ok-ask-in-Some-clause-asks : goal.returns-in_ok-ask-in-Some-clause-asks
returns-in_ok-ask-in-Some-clause-asks c =
    asks_next (view_of c.args.self.now) (view_of c.note.new.self) (view_of c.step.new.self) c.args.answer c.in_ok-ask-in-Some.ask c.in_ok-note.ensures.known (on_pending c.args.self.now.waiting c.args.answer c.requires.pending c.requires.fits) c.in_ok-ask-in-Some.ensures.goes

pub returns-in_ok-ask-in-None-clause-asks : goal.returns-in_ok-ask-in-None-clause-asks
returns-in_ok-ask-in-None-clause-asks c =
    let none : c.note.new.self.op ≡ None = cc in
    asks_kept c.args.self.now c.note.new.self c.take_kept.new.self c.args.answer c.got_of-got.result c.in_ok-ask-in-None.ask none c.got_of-got.ensures c.in_ok-note.ensures.known c.in_ok-note.ensures.noted c.in_ok-ask-in-None.ensures.goes
