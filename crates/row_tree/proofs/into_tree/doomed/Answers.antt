use Rattle.std.proofs.Common.{◌∙◌}
use Rattle.tree_model.proofs.MapLaws.{ids, inserted_each}
use Rattle.row_tree.specs.TreeOf.{doom_of}
use Rattle.row_tree.proofs.into_tree.doomed.Goals as goal

pub loop-id-init : goal.loop-id-init
loop-id-init c = inserted_each ids (doom_of) _ _ _ (c.into_iter-id-iterator.ensures.into_iter_gives ∙ c.into_entries-id-items.ensures) c.new-doomed.ensures
