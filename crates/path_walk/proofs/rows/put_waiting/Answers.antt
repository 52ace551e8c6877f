use Rattle.path_walk.proofs.RowPutLaws.{puts_waiting}
use Rattle.path_walk.proofs.rows.put_waiting.Goals as goal

pub returns : goal.returns
returns c = puts_waiting c.args.txn.now c.put_left.new.txn c.put_doomed.new.txn c.requires.writes c.args.dir c.args.name.now c.args.id c.args.row.now c.in_ok-put_left.ensures c.in_ok-put_doomed.ensures.ok
