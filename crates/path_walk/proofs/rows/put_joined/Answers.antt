use Rattle.path_walk.proofs.RowPutLaws.{joined_puts}
use Rattle.path_walk.proofs.rows.put_joined.Goals as goal

pub returns : goal.returns
returns c = joined_puts c.args.txn.now c.put_inode.new.txn c.put_entry.new.txn c.requires.writes c.args.dir c.args.name.now c.args.id c.args.row.now c.kind_of-kind.result c.kind_of-kind.ensures c.in_ok-put_inode.ensures.ok c.in_ok-put_entry.ensures.ok
