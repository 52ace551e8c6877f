use Rattle.std.proofs.Common.{◌≡◌, ◌≤◌, ◌++◌, length}
use Rattle.kv_store.specs.Versions.{rows_of}
use Rattle.kv_store.proofs.rows.first_rows.Given as goal

abbrev pub invariant-loop-key : goal.invariant-loop-key
invariant-loop-key l =
    record {
      can : (goal.iterator-loop-key).can_next l.key-iterator;
      finite : (goal.iterator-loop-key).is_finite l.key-iterator;
      rows : l.rows.items ++ rows_of l.version l.key-iterator ≡ rows_of l.version l.fn.chains;
      few : length l.rows.items ≤ l.limit;
    }
