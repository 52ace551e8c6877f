use Rattle.std.proofs.Common.{◌≡◌, ℕ, ◌+◌, ◌<◌, ◌^◌, length, unwrap_or}
use Rattle.std.specs.FinMap.{get, entries}
use Rattle.tree_model.specs.Maps.{tally}
use Rattle.row_tree.specs.TypedRows.{is_to}
use Rattle.row_tree.proofs.typed.TypedRows.count_links.Given as goal

abbrev pub invariant-loop-key : goal.invariant-loop-key
invariant-loop-key l =
    record {
      counted : (id : ℕ) → unwrap_or (get l.counts id) 0 + tally (is_to id) l.key-iterator ≡ tally (is_to id) (entries l.self.dents);
      fits : length (entries l.self.dents) < 2 ^ 63;
    }
