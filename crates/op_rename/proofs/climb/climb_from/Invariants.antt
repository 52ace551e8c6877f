use Rattle.op_rename.proofs.ClimbSteps.{HasClimbed}
use Rattle.op_rename.proofs.climb.climb_from.Given as goal

abbrev pub invariant-loop-alloc : goal.invariant-loop-alloc
invariant-loop-alloc l = HasClimbed l.txn.reads l.fn.source l.fn.dir l.left l.here

abbrev pub decreases-loop-alloc : goal.decreases-loop-alloc
decreases-loop-alloc l = l.left
