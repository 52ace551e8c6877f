use Rattle.std.proofs.Common.{rules, ◌≡◌, Some, None}
use Rattle.txn_task.specs.Pages.{next_page}
use Rattle.txn_task.proofs.PageRows.{range_pages}
use Rattle.txn_task.proofs.pages.want_pages.Goals as goal

pub returns-in-None : goal.returns-in-None
returns-in-None c =
    let next : next_page c.args.hi.now (Some c.args.lo.now) c.args.txn.now.reads.ranges ≡ None = search rules in
    (next, λ rows ascending agrees. range_pages rows c.args.lo.now c.args.hi.now c.args.txn.now.reads.ranges ascending agrees.ranges next)
