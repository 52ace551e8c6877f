use Rattle.std.proofs.Common.{◌++◌, take, arith, length-append}
use Rattle.std.proofs.KnownBytes.{Consumes-trans}
use Rattle.fs_io.proofs.reading.read_all.Goals as goal

-- what came before this turn, and then what this turn gave
pub returns-then-count-limit-clause-long : goal.returns-then-count-limit-clause-long
returns-then-count-limit-clause-long g c = λ _. (
  c.loop-count.bytes.items ++ take c.in-Ok.count c.take.new.into,
  Consumes-trans _ _ _ _ _ c.loop-count.invariant.came c.in-Ok.ensures.bytes.0,
  omega (arith, length-append c.loop-count.bytes.items (take c.in-Ok.count c.take.new.into), c.in-Ok.ensures.bound),
)

pub returns-then-is_err-clause-memory_within : goal.returns-then-is_err-clause-memory_within
returns-then-is_err-clause-memory_within g c = λ _. (
  c.loop-count.bytes.items ++ take c.in-Ok.count c.take.new.into,
  Consumes-trans _ _ _ _ _ c.loop-count.invariant.came c.in-Ok.ensures.bytes.0,
  omega (arith, length-append c.loop-count.bytes.items (take c.in-Ok.count c.take.new.into), c.in-Ok.ensures.bound),
)
