use Rattle.std.proofs.Common.{Some, refl, sym, subst, ◌∙◌}
use Rattle.txn_task.specs.Listing.{AddsEntries}
use Rattle.txn_task.proofs.ListEntries.{adds_none, range_more}
use Rattle.txn_task.proofs.MoreLaws.{start_moved}
use Rattle.txn_task.proofs.list.entries_in.Goals as goal

pub loop-range-init : goal.loop-range-init
loop-range-init c = record { start = refl; names = adds_none c.new-names.result }

pub loop-range-preserved : goal.loop-range-preserved
loop-range-preserved c = record {
  start =
      c.in_ok-start.ensures
      ∙ start_moved c.args.hi.now (Some c.in_ok-from_slice.field-0) c.loop-range.start c.args.ranges.now c.loop-range.range-index c.range-item.result c.loop-range-test.true (sym c.range-item.is) c.loop-range.invariant.start;
  names =
      range_more c.args.hi.now (Some c.in_ok-from_slice.field-0) c.loop-range.start c.args.ranges.now c.loop-range.range-index c.range-item.result c.new-names.result c.loop-range.names c.add_page.new.names
      c.loop-range-test.true (sym c.range-item.is) c.loop-range.invariant.start c.loop-range.invariant.names
      (subst (λ rows. AddsEntries rows c.loop-range.names c.add_page.new.names) c.rows_of_page.ensures c.in_ok-add_page.ensures);
}
