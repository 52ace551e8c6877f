use Rattle.op_link.proofs.link.link_at.Goals as goal

pub link_node-requires-clause-source : goal.link_node-requires-clause-source
link_node-requires-clause-source c = rw c.in-At.is at c.requires.source
