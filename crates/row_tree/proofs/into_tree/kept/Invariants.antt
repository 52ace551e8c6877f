use Rattle.std.proofs.Common.{◌≡◌}
use Rattle.tree_model.specs.Maps.{map_values}
use Rattle.tree_model.proofs.MapLaws.{insert_each}
use Rattle.row_tree.specs.TreeOf.{kept_of}
use Rattle.row_tree.proofs.into_tree.kept.Given as goal

abbrev pub invariant-loop-client : goal.invariant-loop-client
invariant-loop-client l = insert_each (kept_of) l.client-iterator l.kept ≡ map_values (kept_of) l.fn.rows
