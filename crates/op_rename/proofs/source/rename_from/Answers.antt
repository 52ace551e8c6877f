use Rattle.op_rename.proofs.SourceLaws.{asks_entry, no_entry, way_done}
use Rattle.op_rename.proofs.source.rename_from.Goals as goal

pub returns-in-Ask : goal.returns-in-Ask
returns-in-Ask c = asks_entry c.args.to.now c.args.stamp c.args.from.dir c.args.from.name c.args.txn.now c.requires.writes c.in-Ask.key (rw c.in-Ask.is at c.in_ok-key.ensures)

pub returns-in-Absent : goal.returns-in-Absent
returns-in-Absent c = let want = rw c.in-Absent.is at c.in_ok-key.ensures in no_entry c.args.to.now c.args.stamp c.args.from.dir c.args.from.name c.args.txn.now c.requires.writes want.0 want.1

pub walk_to-requires-clause-entry : goal.walk_to-requires-clause-entry
walk_to-requires-clause-entry c = let want = rw c.in-There.is at c.in_ok-key.ensures in record { seen = want.0; there = want.1 }

pub returns-in_ok-step-in-There : goal.returns-in_ok-step-in-There
returns-in_ok-step-in-There c =
    let want = rw c.in-There.is at c.in_ok-key.ensures in
    way_done c.args.to.now c.args.stamp c.args.from c.args.txn.now c.in-There.entry (record { seen = want.0; there = want.1 }) c.walk_to.new.txn c.in_ok-step-in-There.step c.in_ok-step-in-There.ensures
