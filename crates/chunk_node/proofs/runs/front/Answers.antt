use Rattle.std.proofs.Common.{◌<◌, ◌≤◌, length, take, subst, arith}
use Rattle.chunk_node.specs.Reading.{run_bytes}
use Rattle.chunk_node.proofs.Cuts.{offset_at, front_none, front_some}
use Rattle.chunk_node.proofs.runs.front.Goals as goal

pub overflow_sub-result : goal.overflow_sub-result
overflow_sub-result c =
    let inside : c.ended_by-count.result < length c.args.runs.now = omega (arith, c.ended_by-count.ensures.within, c.if-count-runs.false) in
    omega (arith, offset_at c.args.runs.now c.ended_by-count.result (record { offset = 0; len = 0; fill = 0 }) c.requires.row inside, c.ended_by-count.ensures.ended, c.saturating_sub.ensures)

pub returns-then-count-runs : goal.returns-then-count-runs
returns-then-count-runs c =
    front_none c.args.runs.now c.args.size c.ended_by-count.result c.requires.row c.requires.within c.ended_by-count.ensures.within
    (subst (λ n. length (run_bytes (take c.ended_by-count.result c.args.runs.now)) ≤ n) c.saturating_sub.ensures c.ended_by-count.ensures.ended) c.if-count-runs.true

pub returns : goal.returns
returns c =
    let inside : c.ended_by-count.result < length c.args.runs.now = omega (arith, c.ended_by-count.ensures.within, c.if-count-runs.false) in
    front_some c.args.runs.now c.args.size c.ended_by-count.result c.requires.row c.requires.within c.ended_by-count.ensures.within
    (subst (λ n. length (run_bytes (take c.ended_by-count.result c.args.runs.now)) ≤ n) c.saturating_sub.ensures c.ended_by-count.ensures.ended)
    (record { offset = 0; len = 0; fill = 0 }) inside (omega (arith, c.ended_by-count.ensures.next (record { offset = 0; len = 0; fill = 0 }) inside, c.saturating_sub.ensures))
