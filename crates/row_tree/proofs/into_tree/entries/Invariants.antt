use Rattle.std.proofs.Common.{◌≡◌}
use Rattle.tree_model.specs.Maps.{map_values}
use Rattle.tree_model.proofs.MapLaws.{insert_each}
use Rattle.row_records.specs.declared.rows.DentRow.{DentRow}
use Rattle.row_tree.proofs.into_tree.entries.Given as goal

abbrev pub invariant-loop-key : goal.invariant-loop-key
invariant-loop-key l = insert_each (λ (e : DentRow). e.inode) l.key-iterator l.entries ≡ map_values (λ (e : DentRow). e.inode) l.fn.rows
