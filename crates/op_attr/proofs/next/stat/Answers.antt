use Rattle.std.proofs.Common.{refl}
use Rattle.op_attr.specs.declared.task.AttrCall.TheVariants as attr
use Rattle.op_attr.proofs.ReadLaws.{asks_inode, stat_nowhere, stat_told}
use Rattle.op_attr.proofs.next.stat.Goals as goal

pub returns-in-Ask : goal.returns-in-Ask
returns-in-Ask c = λ kind. asks_inode c.args.txn.now c.requires c.args.id attr.Stat kind c.in-Ask.key refl (rw c.in-Ask.is at c.in_ok-key.ensures)

pub returns-in-Absent : goal.returns-in-Absent
returns-in-Absent c = let want = rw c.in-Absent.is at c.in_ok-key.ensures in λ kind. stat_nowhere c.args.txn.now c.requires c.args.id kind want.0 want.1

pub returns-in-There : goal.returns-in-There
returns-in-There c =
    let want = rw c.in-There.is at c.in_ok-key.ensures in
    λ kind. stat_told c.args.txn.now c.requires c.args.id kind c.in-There.row c.attributes.result want.0 want.1 c.attributes.ensures.told c.attributes.ensures.links
