use Rattle.std.proofs.Common.{◌∙◌}
use Rattle.tree_model.proofs.MapLaws.{ids, inserted_each}
use Rattle.row_tree.specs.TreeOf.{kept_of}
use Rattle.row_tree.proofs.into_tree.kept.Goals as goal

pub loop-client-init : goal.loop-client-init
loop-client-init c = inserted_each ids (kept_of) _ _ _ (c.into_iter-client-iterator.ensures.into_iter_gives ∙ c.into_entries-client-items.ensures) c.new-kept.ensures
