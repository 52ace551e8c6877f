use Rattle.op_attr.proofs.ReadLaws.{list_asks, list_told}
use Rattle.op_attr.proofs.next.list.Goals as goal

pub returns-in-Ask : goal.returns-in-Ask
returns-in-Ask c = list_asks c.args.txn.now c.requires c.args.dir c.in-Ask.ask (rw c.in-Ask.is at c.in_ok-ask.ensures)

pub returns-in-All : goal.returns-in-All
returns-in-All c = let want = rw c.in-All.is at c.in_ok-ask.ensures in list_told c.args.txn.now c.requires c.args.dir c.in-All.names want.0 want.1
