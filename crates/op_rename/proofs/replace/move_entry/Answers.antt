use Rattle.op_rename.proofs.MoveLaws.{same_done}
use Rattle.op_rename.proofs.replace.move_entry.Goals as goal

pub returns-then-is_same : goal.returns-then-is_same
returns-then-is_same c =
    same_done c.args.spots.now c.args.stamp c.args.entry c.args.taken c.args.txn.now c.requires.writes (record { entry_read = c.requires.entry; dir = c.requires.dir; taken_read = c.requires.taken })
    (c.is_same.ensures.same c.if-is_same.true) c.new.result c.new.ensures
