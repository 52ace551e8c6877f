use Rattle.std.proofs.Common.{◌-◌, length}
use Rattle.chunk_node.proofs.Telling.{TellsSoFar}
use Rattle.chunk_node.proofs.bytes.told.Given as goal

abbrev pub invariant-loop-i : goal.invariant-loop-i
invariant-loop-i l = TellsSoFar l.runs l.offset l.end l.i l.out.items l.run

abbrev pub decreases-loop-i : goal.decreases-loop-i
decreases-loop-i l = length l.runs - l.i
