use Rattle.std.proofs.Common.{Some, sym, ◌∙◌}
use Rattle.txn_task.proofs.MoreLaws.{start_moved}
use Rattle.txn_task.proofs.pages.next_page.Goals as goal

pub loop-range-preserved : goal.loop-range-preserved
loop-range-preserved c =
    c.in_ok-start.ensures
    ∙ start_moved c.args.hi.now (Some c.in_ok-from_slice.field-0) c.loop-range.start c.args.ranges.now c.loop-range.range-index c.range-item.result c.loop-range-test.true (sym c.range-item.is) c.loop-range.invariant
