use Rattle.std.proofs.Common.{◌+◌, List, subst, sym}
use Rattle.chunk_node.specs.declared.runs.Run.{Run}
use Rattle.chunk_node.specs.Joining.{IsJoined}
use Rattle.chunk_node.proofs.Joins.{joined_same, joined_other}
use Rattle.chunk_node.proofs.runs.joined.Goals as goal

pub returns-then-run-fill-clause-joined : goal.returns-then-run-fill-clause-joined
returns-then-run-fill-clause-joined c = joined_same c.args.runs.now.items c.args.run c.args.len c.args.fill c.if-len-eq0.false c.if-run-fill.true

pub returns-clause-joined : goal.returns-clause-joined
returns-clause-joined c =
    subst (λ (new : List Run). IsJoined c.args.runs.now.items c.args.run c.args.len c.args.fill new (record { offset = c.args.run.offset + c.args.run.len; len = c.args.len; fill = c.args.fill }))
    (sym c.in_ok-end_run.ensures) (joined_other c.args.runs.now.items c.args.run c.args.len c.args.fill c.if-len-eq0.false c.if-run-fill.false)
