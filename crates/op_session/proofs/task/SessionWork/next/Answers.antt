use Rattle.std.proofs.Common.{subst, sym}
use Rattle.path_walk.specs.Owed.{HasStepped}
use Rattle.op_session.specs.Session.{work_areas, work_effect}
use Rattle.op_session.specs.declared.task.SessionWork.{SessionWork}
use Rattle.op_session.specs.declared.task.SessionWork.TheVariants.{Opening, Held}
use Rattle.op_session.proofs.HeldLaws.{stays_held}
use Rattle.op_session.proofs.task.SessionWork.next.Goals as goal

pub returns-in_ok-step-in-Opening-clause-step : goal.returns-in_ok-step-in-Opening-clause-step
returns-in_ok-step-in-Opening-clause-step c C =
    let client = c.args.client in
    let new : SessionWork = Opening c.in-Opening.mode c.open_on.new.stage in
    subst (λ (o : SessionWork). HasStepped C (work_areas client o) (work_areas client new) (work_effect client o) (work_effect client new) c.args.txn.now c.open_on.new.txn c.in_ok-step-in-Opening.step) (sym c.in-Opening.is) (c.in_ok-step-in-Opening.ensures C)

pub returns-in_ok-step-in-Held-clause-step : goal.returns-in_ok-step-in-Held-clause-step
returns-in_ok-step-in-Held-clause-step c C =
    let client = c.args.client in
    let new : SessionWork = Held c.in-Held.call c.in-Held.session in
    subst (λ (o : SessionWork). HasStepped C (work_areas client o) (work_areas client new) (work_effect client o) (work_effect client new) c.args.txn.now c.held.new.txn c.in_ok-step-in-Held.step) (sym c.in-Held.is)
    (stays_held C (work_areas client new) (work_effect client new) c.args.txn.now c.held.new.txn c.in_ok-step-in-Held.step (c.in_ok-step-in-Held.ensures C))
