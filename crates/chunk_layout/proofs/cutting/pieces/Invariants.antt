use Rattle.std.proofs.Common.{◌≡◌, ◌≤◌, ◌+◌, ◌-◌, length}
use Rattle.chunk_layout.specs.Pieces.{ArePieces}
use Rattle.chunk_layout.proofs.cutting.pieces.Given as goal

abbrev pub invariant-loop-at : goal.invariant-loop-at
invariant-loop-at l = record {
  end : l.end ≡ l.offset + l.len;
  short : l.end ≤ 1099511627776;
  before : l.at ≤ l.end;
  few : length l.pieces ≤ 65536;
  front : ArePieces l.layout.chunk l.end l.offset l.at l.pieces;
}

abbrev pub decreases-loop-at : goal.decreases-loop-at
decreases-loop-at l = l.end - l.at
