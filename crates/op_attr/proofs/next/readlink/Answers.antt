use Rattle.fs_base.specs.declared.kind.Kind.TheVariants as kinds
use Rattle.op_attr.proofs.ReadLaws.{no_link}
use Rattle.op_attr.proofs.next.readlink.Goals as goal

pub returns-in-Dir : goal.returns-in-Dir
returns-in-Dir c = rw c.in-Dir.is (no_link c.args.txn.now c.requires c.args.id kinds.Dir (λ e. cc))

pub returns-in-File : goal.returns-in-File
returns-in-File c = rw c.in-File.is (no_link c.args.txn.now c.requires c.args.id kinds.File (λ e. cc))
