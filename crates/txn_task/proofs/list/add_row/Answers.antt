use Rattle.std.proofs.Common.{rules, Some, None}
use Rattle.txn_task.specs.Listing.{IsEntryOf}
use Rattle.txn_task.proofs.ListEntries.{adds_nothing, adds_one}
use Rattle.txn_task.proofs.list.add_row.Goals as goal

pub returns-in-None : goal.returns-in-None
returns-in-None c =
    let none : IsEntryOf c.args.row.now None = search rules in
    adds_nothing c.args.row.now c.args.names.now none

pub returns-in-Some : goal.returns-in-Some
returns-in-Some c =
    let some : IsEntryOf c.args.row.now (Some c.in-Some.entry) = search rules in
    let one = adds_one c.args.row.now c.in-Some.entry c.args.names.now some in
    search rules
