use Rattle.std.proofs.Common.{◌≡◌}
use Rattle.tree_model.specs.Maps.{map_values}
use Rattle.tree_model.proofs.MapLaws.{insert_each}
use Rattle.row_tree.specs.TreeOf.{node_of}
use Rattle.row_tree.proofs.into_tree.nodes.Given as goal

abbrev pub invariant-loop-id : goal.invariant-loop-id
invariant-loop-id l = insert_each (node_of) l.id-iterator l.nodes ≡ map_values (node_of) l.fn.rows
