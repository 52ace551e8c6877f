use Rattle.op_link.proofs.RemoveLaws.{asks_range, at_used, gone_done}
use Rattle.op_link.proofs.rmdir.remove_dir.Goals as goal

pub returns-in-Ask : goal.returns-in-Ask
returns-in-Ask c = λ stamp. asks_range stamp c.args.dir c.args.name.now c.args.txn.now c.requires.writes c.args.entry c.requires.entry c.requires.is_dir c.in-Ask.ask (rw c.in-Ask.is at c.in_ok-ask.ensures)

pub returns-in-Used : goal.returns-in-Used
returns-in-Used c = λ stamp.
    let want = rw c.in-Used.is at c.in_ok-ask.ensures in
    at_used stamp c.args.dir c.args.name.now c.args.txn.now c.requires.writes c.args.entry c.requires.entry c.requires.is_dir want.0 want.1

pub returns-in_ok-put_gone-in-Empty : goal.returns-in_ok-put_gone-in-Empty
returns-in_ok-put_gone-in-Empty c = λ stamp.
    let want = rw c.in-Empty.is at c.in_ok-ask.ensures in
    gone_done stamp c.args.dir c.args.name.now c.args.txn.now c.requires.writes c.args.entry c.requires.entry c.requires.is_dir want.0 want.1
    c.in_range.ensures.id c.in_range.ensures.dir c.in_range.ensures.name c.put_gone.new.txn c.new.result c.in_ok-put_gone-in-Empty.ensures c.new.ensures
