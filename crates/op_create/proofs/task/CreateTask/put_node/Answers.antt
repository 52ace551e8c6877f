use Rattle.std.proofs.Common.{◌+◌, ◌*◌, ap, ◌∙◌}
use Rattle.op_create.proofs.CreateLaws.{puts_made}
use Rattle.op_create.proofs.task.CreateTask.put_node.Goals as goal

pub returns-clause-puts : goal.returns-clause-puts
returns-clause-puts c =
    puts_made c.args.self.now c.args.dir c.args.name.now c.args.layout c.args.number c.new-id.result c.args.txn.now c.put_inode.new.txn c.put_entry.new.txn c.put_next.new.txn c.in_ok-row.row c.kind_of-kind.result c.requires.writes
    (c.new-id.ensures ∙ ap (λ x. 16 * c.args.number + x) c.from.ensures) c.in_ok-row.ensures c.kind_of-kind.ensures c.in_ok-put_inode.ensures.ok c.in_ok-put_entry.ensures.ok c.in_ok-put_next.ensures.ok
