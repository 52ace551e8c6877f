use Rattle.op_link.proofs.RemoveLaws.{asks_entry, at_other, no_entry}
use Rattle.op_link.proofs.rmdir.rmdir.Goals as goal

pub returns-in-Ask : goal.returns-in-Ask
returns-in-Ask c = λ stamp. asks_entry stamp c.args.dir c.args.name.now c.args.txn.now c.requires.writes c.in-Ask.key (rw c.in-Ask.is at c.in_ok-key.ensures)

pub returns-in-Absent : goal.returns-in-Absent
returns-in-Absent c = λ stamp. let want = rw c.in-Absent.is at c.in_ok-key.ensures in no_entry stamp c.args.dir c.args.name.now c.args.txn.now c.requires.writes want.0 want.1

pub returns-in-File : goal.returns-in-File
returns-in-File c = λ stamp.
    let want = rw c.in-There.is at c.in_ok-key.ensures in
    at_other stamp c.args.dir c.args.name.now c.args.txn.now c.requires.writes c.in-There.entry (record { seen = want.0; there = want.1 }) (λ d. let clash = c.in-File.is in cc)

pub returns-in-Link : goal.returns-in-Link
returns-in-Link c = λ stamp.
    let want = rw c.in-There.is at c.in_ok-key.ensures in
    at_other stamp c.args.dir c.args.name.now c.args.txn.now c.requires.writes c.in-There.entry (record { seen = want.0; there = want.1 }) (λ d. let clash = c.in-Link.is in cc)

pub remove_dir-requires-clause-entry : goal.remove_dir-requires-clause-entry
remove_dir-requires-clause-entry c = let want = rw c.in-There.is at c.in_ok-key.ensures in record { seen = want.0; there = want.1 }
