use Rattle.std.proofs.Common.{◌≡◌, ◌+◌, ◌≤◌, drop}
use Rattle.run_record.specs.Right.{count_distinct}
use Rattle.run_record.proofs.summary.count_distinct.Given as goal

abbrev pub invariant-loop-place : goal.invariant-loop-place
invariant-loop-place l = record {
  few : l.count ≤ l.place;
  so_far : l.count + count_distinct (drop l.place l.pairs) ≡ count_distinct l.pairs;
}
