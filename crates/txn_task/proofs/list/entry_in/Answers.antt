use Rattle.std.proofs.Common.{rules, Some, None}
use Rattle.row_records.specs.Rows.{read_dent}
use Rattle.txn_task.specs.Listing.{IsNameOf}
use Rattle.txn_task.specs.Wanted.{IsRowReading}
use Rattle.txn_task.proofs.ListEntries.{entry_unread, entry_read}
use Rattle.txn_task.proofs.list.entry_in.Goals as goal

pub returns-in-None : goal.returns-in-None
returns-in-None c =
    let none : IsRowReading (read_dent c.args.row.now.value) None = search rules in
    entry_unread c.args.row.now none

pub returns-in-Some-2 : goal.returns-in-Some-2
returns-in-Some-2 c =
    let name : IsNameOf c.args.row.now.key (Some c.in-Some.name) = search rules in
    let row : IsRowReading (read_dent c.args.row.now.value) (Some c.in-Some-2.dent) = search rules in
    entry_read c.args.row.now c.in-Some.name c.in-Some-2.dent name row
