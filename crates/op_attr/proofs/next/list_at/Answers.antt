use Rattle.fs_base.specs.declared.kind.Kind.TheVariants as kinds
use Rattle.op_attr.proofs.ReadLaws.{no_list}
use Rattle.op_attr.proofs.next.list_at.Goals as goal

pub returns-in-File : goal.returns-in-File
returns-in-File c = rw c.in-File.is (no_list c.args.txn.now c.requires c.args.id kinds.File (λ e. cc))

pub returns-in-Link : goal.returns-in-Link
returns-in-Link c = rw c.in-Link.is (no_list c.args.txn.now c.requires c.args.id kinds.Link (λ e. cc))
