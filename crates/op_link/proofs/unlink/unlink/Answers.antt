use Rattle.op_link.proofs.LeaveLaws.{asks_entry, at_dir, no_entry}
use Rattle.op_link.proofs.unlink.unlink.Goals as goal

pub returns-in-Ask : goal.returns-in-Ask
returns-in-Ask c = asks_entry c.args.stamp c.args.dir c.args.name.now c.args.txn.now c.requires.writes c.in-Ask.key (rw c.in-Ask.is at c.in_ok-key.ensures)

pub returns-in-Absent : goal.returns-in-Absent
returns-in-Absent c = let want = rw c.in-Absent.is at c.in_ok-key.ensures in no_entry c.args.stamp c.args.dir c.args.name.now c.args.txn.now c.requires.writes want.0 want.1

pub returns-in-Dir : goal.returns-in-Dir
returns-in-Dir c =
    let want = rw c.in-There.is at c.in_ok-key.ensures in
    at_dir c.args.stamp c.args.dir c.args.name.now c.args.txn.now c.requires.writes c.in-There.entry (record { seen = want.0; there = want.1 }) c.in-Dir.is

pub leave-requires-clause-entry : goal.leave-requires-clause-entry
leave-requires-clause-entry c = let want = rw c.in-There.is at c.in_ok-key.ensures in record { seen = want.0; there = want.1 }

pub leave-requires-clause-no_dir : goal.leave-requires-clause-no_dir
leave-requires-clause-no_dir c = λ d. let file = c.in-File.is in cc

pub leave-requires-in-Link-clause-entry : goal.leave-requires-in-Link-clause-entry
leave-requires-in-Link-clause-entry c = let want = rw c.in-There.is at c.in_ok-key.ensures in record { seen = want.0; there = want.1 }

pub leave-requires-in-Link-clause-no_dir : goal.leave-requires-in-Link-clause-no_dir
leave-requires-in-Link-clause-no_dir c = λ d. let kept = c.in-Link.is in cc
