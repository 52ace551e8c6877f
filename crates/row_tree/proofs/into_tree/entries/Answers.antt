use Rattle.std.proofs.Common.{◌∙◌}
use Rattle.tree_model.proofs.MapLaws.{names, inserted_each}
use Rattle.row_records.specs.declared.rows.DentRow.{DentRow}
use Rattle.row_tree.proofs.into_tree.entries.Goals as goal

pub loop-key-init : goal.loop-key-init
loop-key-init c = inserted_each names (λ (e : DentRow). e.inode) _ _ _ (c.into_iter-key-iterator.ensures.into_iter_gives ∙ c.into_entries-key-items.ensures) c.new-entries.ensures
