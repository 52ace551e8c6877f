use Rattle.op_rename.proofs.MoveLaws.{asks_row, no_row}
use Rattle.op_rename.proofs.replace.carry.Goals as goal

pub returns-in-Ask : goal.returns-in-Ask
returns-in-Ask c = λ stamp.
    asks_row c.args.spots.now stamp c.args.entry c.args.taken c.args.txn.now c.requires.writes c.requires.known c.requires.other c.requires.beside c.requires.cleared
    c.in-Ask.key (rw c.in-Ask.is at c.in_ok-key.ensures)

pub returns-in-Absent : goal.returns-in-Absent
returns-in-Absent c = λ stamp.
    let want = rw c.in-Absent.is at c.in_ok-key.ensures in
    no_row c.args.spots.now stamp c.args.entry c.args.taken c.args.txn.now c.requires.writes c.requires.known c.requires.other c.requires.beside c.requires.cleared want.0 want.1

pub put_carried-requires-clause-row : goal.put_carried-requires-clause-row
put_carried-requires-clause-row c = let want = rw c.in-There.is at c.in_ok-key.ensures in record { seen = want.0; there = want.1 }
