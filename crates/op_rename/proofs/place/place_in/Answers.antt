use Rattle.std.specs.Prelude.{None, Some}
use Rattle.op_rename.proofs.PlaceLaws.{asks_name, move_done}
use Rattle.op_rename.proofs.place.place_in.Goals as goal

pub returns-in-Ask : goal.returns-in-Ask
returns-in-Ask c =
    let spots = c.args.spots.now in
    asks_name spots.from c.args.stamp c.args.entry spots.to.dir spots.to.name c.args.txn.now c.requires.writes c.requires.dir c.in-Ask.key (rw c.in-Ask.is at c.in_ok-key.ensures)

pub move_entry-requires-clause-taken : goal.move_entry-requires-clause-taken
move_entry-requires-clause-taken c = let want = rw c.in-Absent.is at c.in_ok-key.ensures in record { seen = want.0; there = want.1 }

pub move_entry-requires-in-There-clause-taken : goal.move_entry-requires-in-There-clause-taken
move_entry-requires-in-There-clause-taken c = let want = rw c.in-There.is at c.in_ok-key.ensures in record { seen = want.0; there = want.1 }

pub returns-in_ok-step-in-Absent : goal.returns-in_ok-step-in-Absent
returns-in_ok-step-in-Absent c =
    let want = rw c.in-Absent.is at c.in_ok-key.ensures in
    move_done c.args.spots.now c.args.stamp c.args.entry None c.args.txn.now c.requires.dir (record { seen = want.0; there = want.1 }) c.move_entry.new.txn c.in_ok-step-in-Absent.step c.in_ok-step-in-Absent.ensures

pub returns-in_ok-step-in-There : goal.returns-in_ok-step-in-There
returns-in_ok-step-in-There c =
    let want = rw c.in-There.is at c.in_ok-key.ensures in
    move_done c.args.spots.now c.args.stamp c.args.entry (Some c.in-There.taken) c.args.txn.now c.requires.dir (record { seen = want.0; there = want.1 }) c.move_entry-in-There.new.txn c.in_ok-step-in-There.step c.in_ok-step-in-There.ensures
