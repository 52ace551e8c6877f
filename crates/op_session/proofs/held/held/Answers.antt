use Rattle.op_session.proofs.HeldLaws.{no_session}
use Rattle.op_session.proofs.held.held.Goals as goal

pub returns-in-Absent : goal.returns-in-Absent
returns-in-Absent c = let want = rw c.file_id-id.ensures.same at (rw c.in-Absent.is at c.in_ok-key.ensures) in no_session c.args.txn.now c.requires.writes c.args.client c.args.session.now c.args.call want.0 want.1
