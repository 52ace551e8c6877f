use Rattle.op_rename.proofs.ClimbSteps.{are_two, is_one}
use Rattle.op_rename.proofs.MovePuts.{puts_across, puts_inside}
use Rattle.op_rename.proofs.rows.put_dir.Goals as goal

pub returns-then-eq : goal.returns-then-eq
returns-then-eq c = puts_inside c.args.txn.now c.args.txn.now c.put_moved.new.txn c.args.spots.now c.args.entry c.args.row c.in_ok-put_moved.ensures (is_one _ _ c.if-eq.ensures)

pub returns : goal.returns
returns c =
    puts_across c.args.txn.now c.put_moved.new.txn c.put_inode.new.txn c.args.spots.now c.args.entry c.args.row c.in_ok-put_moved.ensures
    (are_two _ _ c.if-eq.ensures) c.under-new.result c.under-new.ensures c.in_ok-put_inode.ensures.ok
