use Rattle.std.proofs.Common.{rules}
use Rattle.op_session.proofs.HintRows.{puts_other}
use Rattle.op_session.proofs.held.put_hint.Goals as goal

pub returns : goal.returns
returns c =
    puts_other c.args.txn.now c.put_inode.new.txn c.args.id c.args.old c.args.hint c.args.row c.hinted.result c.requires.writes (search rules) c.hinted.ensures c.in_ok-put_inode.ensures.ok
