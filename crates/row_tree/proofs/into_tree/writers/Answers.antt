use Rattle.std.proofs.Common.{◌∙◌, ℕ}
use Rattle.tree_model.proofs.MapLaws.{holders, inserted_each}
use Rattle.row_tree.proofs.into_tree.writers.Goals as goal

pub loop-key-init : goal.loop-key-init
loop-key-init c = inserted_each holders (λ (stamp : ℕ). tt {0}) _ _ _ (c.into_iter-key-iterator.ensures.into_iter_gives ∙ c.into_entries-key-items.ensures) c.new-writers.ensures
