use Rattle.std.proofs.Common.{subst, sym}
use Rattle.path_walk.specs.Owed.{HasStepped}
use Rattle.meta_task.specs.Ops.{op_config, op_areas, op_effect}
use Rattle.op_attr.specs.Attr as attr
use Rattle.op_create.specs.Create as create
use Rattle.op_link.specs.Link as link
use Rattle.op_rename.specs.Rename as rename
use Rattle.op_session.specs.Session as session
use Rattle.meta_task.specs.declared.op.OpTask.{OpTask}
use Rattle.meta_task.proofs.op.OpTask.next.Goals as goal

pub returns-in_ok-step-in-Attr-clause-step : goal.returns-in_ok-step-in-Attr-clause-step
returns-in_ok-step-in-Attr-clause-step c =
    subst (λ (o : OpTask). HasStepped (op_config o) (op_areas o) (attr.attr_areas c.next.new.self) (op_effect o) (attr.attr_effect c.next.new.self) c.args.txn.now c.next.new.txn c.in_ok-step-in-Attr.step) (sym c.in-Attr.is) c.in_ok-step-in-Attr.ensures.step

pub returns-in_ok-step-in-Create-clause-step : goal.returns-in_ok-step-in-Create-clause-step
returns-in_ok-step-in-Create-clause-step c =
    subst (λ (o : OpTask). HasStepped (op_config o) (op_areas o) (create.create_areas c.next-in-Create.new.self) (op_effect o) (create.create_effect c.next-in-Create.new.self) c.args.txn.now c.next-in-Create.new.txn c.in_ok-step-in-Create.step) (sym c.in-Create.is)
    c.in_ok-step-in-Create.ensures.step

pub returns-in_ok-step-in-Link-clause-step : goal.returns-in_ok-step-in-Link-clause-step
returns-in_ok-step-in-Link-clause-step c =
    subst (λ (o : OpTask). HasStepped (op_config o) (op_areas o) (link.link_areas c.next-in-Link.new.self) (op_effect o) (link.link_effect c.next-in-Link.new.self) c.args.txn.now c.next-in-Link.new.txn c.in_ok-step-in-Link.step) (sym c.in-Link.is)
    c.in_ok-step-in-Link.ensures.step

pub returns-in_ok-step-in-Rename-clause-step : goal.returns-in_ok-step-in-Rename-clause-step
returns-in_ok-step-in-Rename-clause-step c =
    subst (λ (o : OpTask). HasStepped (op_config o) (op_areas o) (rename.rename_areas c.next-in-Rename.new.self) (op_effect o) (rename.rename_effect c.next-in-Rename.new.self) c.args.txn.now c.next-in-Rename.new.txn c.in_ok-step-in-Rename.step) (sym c.in-Rename.is)
    c.in_ok-step-in-Rename.ensures.step

pub returns-in_ok-step-in-Session-clause-step : goal.returns-in_ok-step-in-Session-clause-step
returns-in_ok-step-in-Session-clause-step c =
    subst (λ (o : OpTask). HasStepped (op_config o) (op_areas o) (session.session_task_areas c.next-in-Session.new.self) (op_effect o) (session.session_effect c.next-in-Session.new.self) c.args.txn.now c.next-in-Session.new.txn c.in_ok-step-in-Session.step) (sym c.in-Session.is)
    c.in_ok-step-in-Session.ensures.step
