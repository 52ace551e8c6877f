use Rattle.op_attr.proofs.ReadLaws.{found}
use Rattle.op_attr.proofs.next.at_node.Goals as goal

pub returns-in_ok-step-in-Setattr : goal.returns-in_ok-step-in-Setattr
returns-in_ok-step-in-Setattr c = rw c.in-Setattr.is (c.in_ok-step-in-Setattr.ensures c.args.kind)

pub returns-in-Lookup : goal.returns-in-Lookup
returns-in-Lookup c = rw c.in-Lookup.is (found c.args.txn.now c.requires.writes c.args.id c.args.kind)
