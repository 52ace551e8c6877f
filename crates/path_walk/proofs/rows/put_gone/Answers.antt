use Rattle.path_walk.proofs.RowPutLaws.{puts_gone}
use Rattle.path_walk.proofs.rows.put_gone.Goals as goal

pub returns : goal.returns
returns c = puts_gone c.args.txn.now c.remove_entry.new.txn c.remove_inode.new.txn c.requires.writes c.args.dir c.args.name.now c.args.id c.in_ok-remove_entry.ensures.ok c.in_ok-remove_inode.ensures.ok
