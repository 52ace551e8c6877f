use Rattle.op_rename.proofs.MovePuts.{puts_moved}
use Rattle.op_rename.proofs.rows.put_moved.Goals as goal

pub returns : goal.returns
returns c = puts_moved c.args.txn.now c.remove_entry.new.txn c.put_entry.new.txn c.args.spots.now c.args.entry c.in_ok-remove_entry.ensures.ok c.in_ok-put_entry.ensures.ok
