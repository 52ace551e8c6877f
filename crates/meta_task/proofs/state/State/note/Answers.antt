use Rattle.std.proofs.Common.{◌≡◌, ap, subst}
use Rattle.txn_task.specs.Transactions.{Transaction}
use Rattle.meta_task.specs.State.{IsWaitKnown}
use Rattle.meta_task.specs.Task.{FitsTask}
use Rattle.meta_task.specs.declared.waiting.Waiting.{Waiting}
use Rattle.meta_task.specs.declared.waiting.Waiting.TheVariants as waits
use Rattle.meta_task.proofs.TakeLaws.{state_noted}
use Rattle.meta_task.proofs.state.State.note.Goals as goal

pub returns-clause-noted : goal.returns-clause-noted
returns-clause-noted c =
    let s = c.args.self.now in
    let ask = c.pending-ask.result in
    let waiting : c.args.self.now.waiting ≡ waits.Reading c.pending-ask.result = cc in
    let known = subst (λ (w : Waiting). IsWaitKnown s w) waiting c.requires.state.known in
    state_noted s c.replace-waiting.new.dest c.note.new.self ask c.args.answer.now s.op known.asks waiting (subst (λ (w : Waiting). FitsTask w c.args.answer.now) waiting c.requires.fits) (ap (λ (t : Transaction). t.reads) c.in_ok-note.ensures.ok)
