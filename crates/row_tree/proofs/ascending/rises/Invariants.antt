use Rattle.std.proofs.Common.{◌≡◌, drop}
use Rattle.row_tree.specs.Ascending.{rises}
use Rattle.row_tree.proofs.ascending.rises.Given as goal

abbrev pub invariant-loop-row : goal.invariant-loop-row
invariant-loop-row l = rises l.last.key (drop l.row-index l.rows) ≡ rises l.first.key l.rows
