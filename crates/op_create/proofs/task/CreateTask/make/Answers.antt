use Rattle.std.proofs.Common.{ap}
use Rattle.std.specs.Option.{unwrap_or}
use Rattle.op_create.proofs.CreateLaws.{asks_dir, nowhere, asks_name, taken, asks_next}
use Rattle.op_create.proofs.task.CreateTask.make.Goals as goal

pub returns-in-Ask : goal.returns-in-Ask
returns-in-Ask c = asks_dir c.args.self.now c.args.dir c.args.name c.args.txn.now c.requires.writes c.in-Ask.key (rw c.in-Ask.is at c.in_ok-key.ensures)

pub returns-in-NotDir : goal.returns-in-NotDir
returns-in-NotDir c =
    let found = rw c.in-NotDir.is at c.in_ok-key.ensures in
    nowhere c.args.self.now c.args.dir c.args.name c.args.txn.now c.requires.writes found.0 found.1

pub returns-in-Ask-2 : goal.returns-in-Ask-2
returns-in-Ask-2 c =
    let default = rw c.in-Default.is at c.in_ok-key.ensures in
    asks_name c.args.self.now c.args.dir c.args.name c.args.txn.now c.requires.writes c.in-Default.layout default c.in-Ask-2.key (rw c.in-Ask-2.is at c.in_ok-key-2.ensures)

pub returns-in-There : goal.returns-in-There
returns-in-There c =
    let default = rw c.in-Default.is at c.in_ok-key.ensures in
    let want = rw c.in-There.is at c.in_ok-key-2.ensures in
    taken c.args.self.now c.args.dir c.args.name c.args.txn.now c.requires.writes c.in-Default.layout default c.in-There.field-0 want.0 want.1

pub returns-in-Ask-3 : goal.returns-in-Ask-3
returns-in-Ask-3 c =
    let default = rw c.in-Default.is at c.in_ok-key.ensures in
    let free = rw c.in-Absent.is at c.in_ok-key-2.ensures in
    asks_next c.args.self.now c.args.dir c.args.name c.args.txn.now c.requires.writes c.in-Default.layout default c.in-Ask-3.key free.0 free.1 (rw c.in-Ask-3.is at c.in_ok-key-3.ensures)

pub put-requires-clause-may : goal.put-requires-clause-may
put-requires-clause-may c =
    let free = rw c.in-Absent.is at c.in_ok-key-2.ensures in
    let want = rw c.in-Absent-2.is at c.in_ok-key-3.ensures in
    record { in_dir = rw c.in-Default.is at c.in_ok-key.ensures; seen_name = free.0; seen_next = want.0; free = free.1; next = λ S agrees. ap (λ o. unwrap_or o 1) (want.1 S agrees) }

pub put-requires-in-There-2-clause-may : goal.put-requires-in-There-2-clause-may
put-requires-in-There-2-clause-may c =
    let free = rw c.in-Absent.is at c.in_ok-key-2.ensures in
    let want = rw c.in-There-2.is at c.in_ok-key-3.ensures in
    record { in_dir = rw c.in-Default.is at c.in_ok-key.ensures; seen_name = free.0; seen_next = want.0; free = free.1; next = λ S agrees. ap (λ o. unwrap_or o 1) (want.1 S agrees) }
