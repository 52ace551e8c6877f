use Rattle.std.proofs.Common.{[]}
use Rattle.op_rename.proofs.MoveLaws.{free_done}
use Rattle.op_rename.proofs.replace.put_free.Goals as goal

pub returns : goal.returns
returns c = λ stamp.
    free_done c.args.spots.now stamp c.args.entry c.requires.no_dir c.args.txn.now
    c.in_range.ensures.dir c.in_range.ensures.name c.in_range.ensures.id c.in_range-2.ensures.dir c.in_range-2.ensures.name c.put_moved.new.txn c.new.result c.new.ensures
    c.requires.known (c.in_ok-put_moved.ensures [] c.requires.writes)
