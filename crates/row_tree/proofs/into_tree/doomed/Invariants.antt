use Rattle.std.proofs.Common.{◌≡◌}
use Rattle.tree_model.specs.Maps.{map_values}
use Rattle.tree_model.proofs.MapLaws.{insert_each}
use Rattle.row_tree.specs.TreeOf.{doom_of}
use Rattle.row_tree.proofs.into_tree.doomed.Given as goal

abbrev pub invariant-loop-id : goal.invariant-loop-id
invariant-loop-id l = insert_each (doom_of) l.id-iterator l.doomed ≡ map_values (doom_of) l.fn.rows
