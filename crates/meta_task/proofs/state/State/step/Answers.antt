use Rattle.std.proofs.Common.{sym, subst}
use Rattle.conflict_sets.specs.declared.sets.ReadSet.{ReadSet}
use Rattle.meta_task.specs.State.{IsOpUnderWay}
use Rattle.meta_task.proofs.UnderLaws.{under_on}
use Rattle.meta_task.proofs.state.State.step.Goals as goal

pub settle-requires-clause-under : goal.settle-requires-clause-under
settle-requires-clause-under c =
    let h = c.in_ok-step.ensures in
    subst (λ (r : ReadSet). IsOpUnderWay c.args.self.now.config c.args.self.now.request r c.next.new.self) (sym h.step.done.reads)
    (under_on c.args.self.now.config c.args.self.now.request c.args.self.now.txn.reads c.args.op c.next.new.self c.requires.under h.config h.ready h.step.effect h.step.areas)
