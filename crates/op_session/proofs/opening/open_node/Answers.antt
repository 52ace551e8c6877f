use Rattle.std.proofs.Common.{sym}
use Rattle.op_session.proofs.OpenLaws.{no_file, nowhere}
use Rattle.op_session.proofs.opening.open_node.Goals as goal

pub returns-in-Absent : goal.returns-in-Absent
returns-in-Absent c = let want = rw c.in-Absent.is at c.in_ok-key.ensures in nowhere c.args.txn.now c.requires.writes c.args.mode c.args.client c.args.id want.0 want.1

pub returns-in-None : goal.returns-in-None
returns-in-None c =
    let want = rw c.in-There.is at c.in_ok-key.ensures in
    let none = rw c.in-None.is at c.file_of.ensures in
    no_file c.args.txn.now c.requires.writes c.args.mode c.args.client c.args.id c.in-There.row want.0 want.1 (sym none)
