use Rattle.std.proofs.Common.{take}
use Rattle.txn_task.specs.Listing.{AddsEntries}
use Rattle.txn_task.proofs.list.add_page.Given as goal

abbrev pub invariant-loop-row : goal.invariant-loop-row
invariant-loop-row l = AddsEntries (take l.row-index l.rows) l.initial.names l.names
