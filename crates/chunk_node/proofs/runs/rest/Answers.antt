use Rattle.std.proofs.Common.{◌<◌, length, arith}
use Rattle.chunk_node.proofs.Cuts.{offset_at, rest_none, rest_some}
use Rattle.chunk_node.proofs.runs.rest.Goals as goal

pub overflow_sub-result : goal.overflow_sub-result
overflow_sub-result c =
    let inside : c.ended_by-count.result < length c.args.runs.now = omega (arith, c.ended_by-count.ensures.within, c.if-count-runs.false) in
    omega (arith, offset_at c.args.runs.now c.ended_by-count.result (record { offset = 0; len = 0; fill = 0 }) c.requires.row inside, c.ended_by-count.ensures.ended)

pub returns-then-count-runs : goal.returns-then-count-runs
returns-then-count-runs c = rest_none c.args.runs.now c.args.size c.ended_by-count.result c.if-count-runs.true c.ended_by-count.ensures.ended

pub returns : goal.returns
returns c =
    let inside : c.ended_by-count.result < length c.args.runs.now = omega (arith, c.ended_by-count.ensures.within, c.if-count-runs.false) in
    rest_some c.args.runs.now c.args.size c.ended_by-count.result (record { offset = 0; len = 0; fill = 0 }) c.requires.row inside c.ended_by-count.ensures.ended
    (c.ended_by-count.ensures.next (record { offset = 0; len = 0; fill = 0 }) inside)
