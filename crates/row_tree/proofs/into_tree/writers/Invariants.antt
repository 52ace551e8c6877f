use Rattle.std.proofs.Common.{◌≡◌, ℕ}
use Rattle.tree_model.specs.Maps.{map_values}
use Rattle.tree_model.proofs.MapLaws.{insert_each}
use Rattle.row_tree.proofs.into_tree.writers.Given as goal

abbrev pub invariant-loop-key : goal.invariant-loop-key
invariant-loop-key l = insert_each (λ (stamp : ℕ). tt {0}) l.key-iterator l.writers ≡ map_values (λ (stamp : ℕ). tt {0}) l.fn.rows
