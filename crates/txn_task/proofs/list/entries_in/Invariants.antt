use Rattle.std.proofs.Common.{◌≡◌, take}
use Rattle.txn_task.specs.Listing.{AddsEntries}
use Rattle.txn_task.specs.Pages.{next_page, page_rows}
use Rattle.txn_task.proofs.list.entries_in.Given as goal

abbrev pub invariant-loop-range : goal.invariant-loop-range
invariant-loop-range l = record {
  start : l.start ≡ next_page l.hi l.initial.start (take l.range-index l.ranges);
  names : AddsEntries (page_rows l.hi l.initial.start (take l.range-index l.ranges)) l.initial.names l.names;
}
