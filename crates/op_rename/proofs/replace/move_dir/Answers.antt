use Rattle.op_rename.proofs.MoveLaws.{asks_up, into_itself}
use Rattle.op_rename.proofs.replace.move_dir.Goals as goal

pub returns-in-Ask : goal.returns-in-Ask
returns-in-Ask c = λ stamp.
    asks_up c.args.spots.now stamp c.args.entry c.args.taken c.args.txn.now c.requires.writes c.requires.known c.requires.other c.requires.is_dir c.in-Ask.key (rw c.in-Ask.is at c.in_ok-key.ensures)

pub returns-in-Found : goal.returns-in-Found
returns-in-Found c = λ stamp.
    into_itself c.args.spots.now stamp c.args.entry c.args.taken c.args.txn.now c.requires.writes c.requires.known c.requires.other c.requires.is_dir (rw c.in-Found.is at c.in_ok-key.ensures)

pub carry-requires-clause-beside : goal.carry-requires-clause-beside
carry-requires-clause-beside c =
    let clear = rw c.in-Clear.is at c.in_ok-key.ensures in
    record { is_dir = c.requires.is_dir; way_read = λ C. (clear C).0; beside = λ C. (clear C).1 }

pub over_dir-requires-clause-beside : goal.over_dir-requires-clause-beside
over_dir-requires-clause-beside c =
    let clear = rw c.in-Clear.is at c.in_ok-key.ensures in
    record { is_dir = c.requires.is_dir; way_read = λ C. (clear C).0; beside = λ C. (clear C).1 }

pub returns-in-None : goal.returns-in-None
returns-in-None c = rw c.in-None.is c.carry.ensures

pub returns-in-Some : goal.returns-in-Some
returns-in-Some c = rw c.in-Some.is c.over_dir.ensures
