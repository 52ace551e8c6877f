use Rattle.run_record.proofs.Counts.{lines_step}
use Rattle.run_record.proofs.replies.push_conflicts.Goals as goal

pub loop-place-preserved : goal.loop-place-preserved
loop-place-preserved c =
    lines_step c.args.client c.args.receipt.now c.as_slice-pair-items.result.now c.loop-place.place c.pair-item.result _ _ _
    c.loop-place-test.true c.pair-item.is c.loop-place.invariant c.in_ok-push_conflict.ensures
