use Rattle.path_walk.specs.RowPuts.{unlinked_puts}
use Rattle.op_rename.specs.Puts.{moved_puts}
use Rattle.op_rename.proofs.MoveLaws.{over_done}
use Rattle.op_rename.proofs.MovePuts.{puts_then}
use Rattle.op_rename.proofs.replace.put_over.Goals as goal

pub returns : goal.returns
returns c =
    over_done c.args.spots.now c.args.stamp c.args.entry c.requires.no_dir c.args.old c.requires.other c.args.txn.now c.requires.known c.requires.old_no_dir c.args.row c.requires.row c.requires.stamp
    c.in_range.ensures.dir c.in_range.ensures.name c.in_range.ensures.id c.in_range-2.ensures.dir c.in_range-2.ensures.name c.in_range-2.ensures.id c.put_moved.new.txn c.new.result
    (puts_then c.args.txn.now c.put_unlinked.new.txn c.put_moved.new.txn (moved_puts c.args.spots.now c.args.entry) (unlinked_puts c.args.stamp c.args.spots.now.to.dir c.args.spots.now.to.name c.args.old c.args.row)
    c.in_ok-put_unlinked.ensures c.in_ok-put_moved.ensures)
    c.new.ensures
