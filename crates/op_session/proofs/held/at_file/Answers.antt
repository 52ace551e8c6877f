use Rattle.std.proofs.Common.{sym}
use Rattle.op_session.proofs.HeldLaws.{asks_file, fstat_told, no_file, nowhere}
use Rattle.op_session.proofs.held.at_file.Goals as goal

pub returns-in-Ask : goal.returns-in-Ask
returns-in-Ask c = asks_file c.args.txn.now c.requires.writes c.args.client c.args.session.now c.requires.held c.args.call c.in-Ask.key (rw c.file_id-id.ensures.same at (rw c.in-Ask.is at c.in_ok-key.ensures))

pub returns-in-Absent : goal.returns-in-Absent
returns-in-Absent c = let want = rw c.file_id-id.ensures.same at (rw c.in-Absent.is at c.in_ok-key.ensures) in nowhere c.args.txn.now c.requires.writes c.args.client c.args.session.now c.requires.held c.args.call want.0 want.1

pub returns-in-None : goal.returns-in-None
returns-in-None c =
    let want = rw c.file_id-id.ensures.same at (rw c.in-There.is at c.in_ok-key.ensures) in
    let none = rw c.file_id-id.ensures.same at (rw c.in-None.is at c.file_of.ensures) in
    no_file c.args.txn.now c.requires.writes c.args.client c.args.session.now c.requires.held c.in-There.row (record { seen = want.0; there = want.1 }) c.args.call (sym none)

pub returns-in-Fstat : goal.returns-in-Fstat
returns-in-Fstat c =
    let want = rw c.file_id-id.ensures.same at (rw c.in-There.is at c.in_ok-key.ensures) in
    let file = rw c.file_id-id.ensures.same at (rw c.in-Some.is at c.file_of.ensures) in
    rw c.in-Fstat.is (fstat_told c.args.txn.now c.requires.writes c.args.client c.args.session.now c.requires.held c.in-There.row (record { seen = want.0; there = want.1 }) c.in-Some.file (sym file))
