use Rattle.std.proofs.Common.{refl}
use Rattle.fs_base.specs.declared.kind.Kind.TheVariants as kinds
use Rattle.op_attr.specs.declared.task.AttrCall.TheVariants as attr
use Rattle.op_attr.proofs.ReadLaws.{asks_inode, target_nowhere, target_told}
use Rattle.op_attr.proofs.next.target.Goals as goal

pub returns-in-Ask : goal.returns-in-Ask
returns-in-Ask c = asks_inode c.args.txn.now c.requires c.args.id attr.Readlink kinds.Link c.in-Ask.key refl (rw c.in-Ask.is at c.in_ok-key.ensures)

pub returns-in-Absent : goal.returns-in-Absent
returns-in-Absent c = let want = rw c.in-Absent.is at c.in_ok-key.ensures in target_nowhere c.args.txn.now c.requires c.args.id want.0 want.1

pub returns-in-There : goal.returns-in-There
returns-in-There c =
    let want = rw c.in-There.is at c.in_ok-key.ensures in
    target_told c.args.txn.now c.requires c.args.id c.in-There.row c.target_of.result want.0 want.1 c.target_of.ensures
