use Rattle.std.proofs.Common.{◌≡◌, sym, subst, arith}
use Rattle.std.specs.Prelude.{IfOk, length, ◌-◌}
use Rattle.txn_task.proofs.PageRows.{after_is}
use Rattle.txn_task.proofs.pages.start_after.Goals as goal

pub returns-in-len1-up : goal.returns-in-len1-up
returns-in-len1-up c =
    subst (λ at. IfOk c.start_behind.result (λ start. start ≡ at))
    (after_is c.args.lo.now c.args.rows.now (length c.args.rows.now - 1) c.last-item.result c.if-rows.false (omega arith) (sym c.last-item.is)) c.start_behind.ensures
