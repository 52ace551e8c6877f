use Rattle.std.proofs.Common.{◌+◌, arith}
use Rattle.run_record.proofs.Counts.{conflicts_step, conflicts_within}
use Rattle.run_record.proofs.summary.conflicts_in.Goals as goal

pub overflow_add-conflicts : goal.overflow_add-conflicts
overflow_add-conflicts c =
    let step = conflicts_step c.args.receipts.now c.loop-listed.listed-index c.listed-item.result c.loop-listed-test.true c.listed-item.is in
    let within = conflicts_within c.args.receipts.now (c.loop-listed.listed-index + 1) in
    omega (arith, c.loop-listed.invariant, c.len.ensures, c.requires)

pub loop-listed-preserved : goal.loop-listed-preserved
loop-listed-preserved c =
    let step = conflicts_step c.args.receipts.now c.loop-listed.listed-index c.listed-item.result c.loop-listed-test.true c.listed-item.is in
    omega (arith, c.loop-listed.invariant, c.len.ensures)
