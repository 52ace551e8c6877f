use Rattle.path_walk.proofs.RowPutLaws.{puts_left}
use Rattle.path_walk.proofs.rows.put_left.Goals as goal

pub returns : goal.returns
returns c = puts_left c.args.txn.now c.remove_entry.new.txn c.put_inode.new.txn c.requires.writes c.args.dir c.args.name.now c.args.id c.args.row.now c.in_ok-remove_entry.ensures.ok c.in_ok-put_inode.ensures.ok
