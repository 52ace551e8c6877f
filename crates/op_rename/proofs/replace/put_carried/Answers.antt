use Rattle.op_rename.specs.Puts.{cleared_puts, dir_puts}
use Rattle.op_rename.proofs.MoveLaws.{carried_done}
use Rattle.op_rename.proofs.MovePuts.{puts_then}
use Rattle.op_rename.proofs.replace.put_carried.Goals as goal

pub returns : goal.returns
returns c = λ stamp.
    carried_done c.args.spots.now stamp c.args.entry c.args.taken c.args.txn.now c.requires.writes c.requires.known c.requires.other c.requires.beside c.requires.cleared c.args.row c.requires.row
    c.in_range.ensures.dir c.in_range.ensures.name c.in_range.ensures.id c.in_range-2.ensures.dir c.in_range-2.ensures.name c.clear.ensures.range c.put_dir.new.txn c.new.result
    (puts_then c.args.txn.now c.clear.new.txn c.put_dir.new.txn (dir_puts c.args.spots.now c.args.entry c.args.row) (cleared_puts c.args.spots.now c.args.taken) c.in_ok-clear.ensures.puts c.in_ok-put_dir.ensures)
    c.new.ensures
