use Rattle.conflict_sets.specs.Keys.{key_cmp}
use Rattle.std.proofs.Common.{rules}
use Rattle.conflict_sets.proofs.order.compare.Goals as goal

pub returns : goal.returns
unfolding key_cmp
returns c = search rules
