use Rattle.std.proofs.Common.{sym}
use Rattle.txn_task.proofs.ListEntries.{page_more}
use Rattle.txn_task.proofs.list.add_page.Goals as goal

pub loop-row-preserved : goal.loop-row-preserved
loop-row-preserved c =
    page_more c.args.rows.now c.loop-row.row-index c.row-item.result c.args.names.now c.loop-row.names c.add_row.new.names c.loop-row-test.true (sym c.row-item.is) c.loop-row.invariant c.in_ok-add_row.ensures
