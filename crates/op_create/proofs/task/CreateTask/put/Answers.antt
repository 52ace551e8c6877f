use Rattle.std.proofs.Common.{ap, ◌∙◌}
use Rattle.path_walk.specs.Puts.{put_writes}
use Rattle.op_create.specs.NewRows.{node_puts}
use Rattle.op_create.proofs.CreateLaws.{full_done, one_done}
use Rattle.op_create.proofs.task.CreateTask.put.Goals as goal

pub returns-then-number : goal.returns-then-number
returns-then-number c =
    full_done c.args.self.now c.args.dir c.args.name.now c.args.txn.now c.requires.writes c.args.default c.args.number c.requires.may c.if-number.true

pub returns : goal.returns
returns c =
    one_done c.args.self.now c.args.dir c.args.name.now c.args.txn.now c.requires.writes c.args.default c.args.number c.requires.may c.requires.ready c.requires.come c.if-number.false
    c.in_range.ensures.chains c.in_range.ensures.dir c.in_range.ensures.name c.put_node.new.txn c.in_ok-id.id c.new.result
    (c.in_ok-id.ensures.puts
    ∙ ap (λ layout. record c.args.txn.now { writes = put_writes (node_puts c.args.self.now c.args.dir c.args.name.now layout c.args.number) }) c.chosen-layout.ensures)
    c.in_ok-id.ensures.id c.new.ensures
