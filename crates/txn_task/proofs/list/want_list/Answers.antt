use Rattle.std.proofs.Common.{rules, [], Some, None}
use Rattle.txn_task.specs.Listing.{AddsEntries}
use Rattle.txn_task.specs.Pages.{IsWantPages, page_rows}
use Rattle.txn_task.proofs.ListEntries.{list_told}
use Rattle.txn_task.proofs.PageRows.{dir_pages}
use Rattle.txn_task.proofs.list.want_list.Goals as goal

pub returns-in-Some : goal.returns-in-Some
returns-in-Some c =
    let pages : IsWantPages (Some c.in-Some.ask) c.args.txn.now.reads c.as_slice.result.now c.as_slice-2.result.now = search rules in
    dir_pages c.args.txn.now.reads c.args.dir c.as_slice.result.now c.as_slice-2.result.now c.dir_range.result.0 c.dir_range.result.1 (Some c.in-Some.ask) (search rules) (search rules) c.dir_range.ensures.value pages

pub returns-in_ok-entries_in-in-None : goal.returns-in_ok-entries_in-in-None
returns-in_ok-entries_in-in-None c =
    let pages : IsWantPages None c.args.txn.now.reads c.as_slice.result.now c.as_slice-2.result.now = search rules in
    let all = dir_pages c.args.txn.now.reads c.args.dir c.as_slice.result.now c.as_slice-2.result.now c.dir_range.result.0 c.dir_range.result.1 None (search rules) (search rules) c.dir_range.ensures.value pages in
    let added : AddsEntries (page_rows c.as_slice-in-None-2.result.now (Some c.as_slice-in-None.result.now) c.ranges-in-None.result.now) [] c.in_ok-entries_in-in-None.field-0 = search rules in
    (all.0, list_told c.args.txn.now.reads c.args.dir c.as_slice-in-None.result.now c.as_slice-in-None-2.result.now c.dir_range.result.0 c.dir_range.result.1 c.ranges-in-None.result.now c.in_ok-entries_in-in-None.field-0 (search rules) (search rules) (search rules) c.dir_range.ensures.value c.ranges-in-None.ensures all.0 added)
