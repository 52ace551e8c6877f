use Rattle.op_link.proofs.JoinLaws.{asks_dir, asks_name, asks_node, no_node, nowhere, taken}
use Rattle.op_link.proofs.join.join.Goals as goal

pub returns-in-Ask : goal.returns-in-Ask
returns-in-Ask c = asks_dir c.args.id c.args.stamp c.args.dir c.args.name.now c.args.txn.now c.requires.writes c.in-Ask.key (rw c.in-Ask.is at c.in_ok-key.ensures)

pub returns-in-NotDir : goal.returns-in-NotDir
returns-in-NotDir c =
    let found = rw c.in-NotDir.is at c.in_ok-key.ensures in
    nowhere c.args.id c.args.stamp c.args.dir c.args.name.now c.args.txn.now c.requires.writes found.0 found.1

pub returns-in-Ask-2 : goal.returns-in-Ask-2
returns-in-Ask-2 c =
    asks_name c.args.id c.args.stamp c.args.dir c.args.name.now c.args.txn.now c.requires.writes (rw c.in-Dir.is at c.in_ok-key.ensures) c.in-Ask-2.key (rw c.in-Ask-2.is at c.in_ok-key-2.ensures)

pub returns-in-There : goal.returns-in-There
returns-in-There c =
    let want = rw c.in-There.is at c.in_ok-key-2.ensures in
    taken c.args.id c.args.stamp c.args.dir c.args.name.now c.args.txn.now c.requires.writes (rw c.in-Dir.is at c.in_ok-key.ensures) c.in-There.field-0 want.0 want.1

pub returns-in-Ask-3 : goal.returns-in-Ask-3
returns-in-Ask-3 c =
    let free = rw c.in-Absent.is at c.in_ok-key-2.ensures in
    asks_node c.args.id c.args.stamp c.args.dir c.args.name.now c.args.txn.now c.requires.writes (rw c.in-Dir.is at c.in_ok-key.ensures) free.0 free.1 c.in-Ask-3.key (rw c.in-Ask-3.is at c.in_ok-key-3.ensures)

pub returns-in-Absent-2 : goal.returns-in-Absent-2
returns-in-Absent-2 c =
    let free = rw c.in-Absent.is at c.in_ok-key-2.ensures in
    let want = rw c.in-Absent-2.is at c.in_ok-key-3.ensures in
    no_node c.args.id c.args.stamp c.args.dir c.args.name.now c.args.txn.now c.requires.writes (rw c.in-Dir.is at c.in_ok-key.ensures) free.0 free.1 c.requires.source want.0 want.1

pub put_link-requires-clause-may : goal.put_link-requires-clause-may
put_link-requires-clause-may c =
    let free = rw c.in-Absent.is at c.in_ok-key-2.ensures in
    let want = rw c.in-There-2.is at c.in_ok-key-3.ensures in
    record { in_dir = rw c.in-Dir.is at c.in_ok-key.ensures; seen_name = free.0; free = free.1; node = record { seen = want.0; there = want.1 } }
