use Rattle.std.proofs.Common.{◌≡◌, refl}
use Rattle.fs_base.specs.declared.kind.Kind.TheVariants as kinds
use Rattle.op_link.proofs.JoinLaws.{from_dir}
use Rattle.op_link.proofs.link.link_node.Goals as goal

pub returns-in-Dir : goal.returns-in-Dir
returns-in-Dir c = rw c.in-Dir.is (from_dir c.args.txn.now c.requires.writes c.args.to.now c.args.stamp c.args.id)

pub walk_to-requires-clause-source : goal.walk_to-requires-clause-source
walk_to-requires-clause-source c = c.requires.source c.args.id c.args.kind refl (λ d. let file : c.args.kind ≡ kinds.File = c.in-File.is in cc)

pub walk_to-requires-in-Link-clause-source : goal.walk_to-requires-in-Link-clause-source
walk_to-requires-in-Link-clause-source c = c.requires.source c.args.id c.args.kind refl (λ d. let kept : c.args.kind ≡ kinds.Link = c.in-Link.is in cc)

pub returns-in-File : goal.returns-in-File
returns-in-File c = rw c.in-File.is c.walk_to.ensures

pub returns-in-Link : goal.returns-in-Link
returns-in-Link c = rw c.in-Link.is c.walk_to-in-Link.ensures
