use Rattle.std.proofs.Common.{take}
use Rattle.row_tree.specs.Spelling.{Spells}
use Rattle.row_tree.proofs.reading.read_rows.Given as goal

abbrev pub invariant-loop-row : goal.invariant-loop-row
invariant-loop-row l = Spells (take l.row-index l.rows) l.typed
